-- What a port keeps when the disk takes a command, or refuses it.
use Rattle.std.proofs.Common.{◌≡◌, ℕ, ◌+◌, ◌/◌, ◌^◌, ◌<◌, ◌≤◌, max, Bool, true, false, not, ◌&&◌, cond, ◌==◌, List, ◌∷◌, length, set, get_or, ltb, ap, sym, refl, subst, ◌∙◌, Option, None, Some, arith}
use Rattle.std.proofs.lemmas.Bool.{ltb-true}
use Rattle.ahci_regs.specs.PortState.{PortState}
use Rattle.ahci_table.specs.Command.{cfis, op, queued_of}
use Rattle.ahci_table.specs.Window.{WindowState}
use Rattle.ncq_journal.specs.declared.phase.Phase.TheVariants.{Free, Issued}
use Rattle.ncq_core.specs.DiskFis.{accepted_bytes, not_found_bytes}
use Rattle.ncq_core.specs.DiskLaws.{AnswersSpell}
use Rattle.ncq_core.specs.DiskState.{DiskState, command_of, disk_sectors}
use Rattle.ncq_journal.specs.Entry.{Entry, Issue, Fail}
use Rattle.ncq_journal.specs.Halted.{halted}
use Rattle.ncq_journal.specs.Lawful.{IsAllowed, IsLawful, IsProper, Fails, end_of}
use Rattle.ncq_journal.specs.Phase.{phase, is_busy}
use Rattle.ncq_journal.specs.Request.{Request, request}
use Rattle.ncq_core.specs.declared.taken.Taken.TheVariants as taken
use Rattle.ncq_journal.specs.declared.plain.Plain.{Plain}
use Rattle.ncq_core.specs.Verdict.{verdict, first_lacking, stopped_by}
use Rattle.ncq_core.specs.Verdict as verdict
use Rattle.ncq_journal.specs.Work.{lba_of}
use Rattle.ncq_journal.proofs.AnswerLemmas.{proper_entry}
use Rattle.ncq_journal.proofs.EntryLemmas.{request_is_its_issue}
use Rattle.ncq_journal.proofs.LawfulLemmas.{lawful_proper}
use Rattle.sata_fis.specs.Fields.{QueuedFields}
use Rattle.sata_fis.specs.Layout.{d2h_at}
use Rattle.ncq_journal.specs.Owed.{owed, owed_in}
use Rattle.ncq_journal.specs.Tags.{in_device}
use Rattle.sata_fis.specs.declared.fis.Fis.TheVariants.{D2h}
use Rattle.sata_fis.specs.Spelling.{Spells}
use Rattle.ahci_port.specs.Standing.{last_failure}
use Rattle.ahci_port.proofs.MemoryLemmas.{fit_sized}
use Rattle.ahci_port.proofs.OwningLemmas.{Owned, owned, owner_is}
use Rattle.ahci_port.specs.Faults.{step_refusal}
use Rattle.ahci_port.specs.PortView.{PortView, sectors_in}
use Rattle.ahci_port.specs.Steps.{IsAccepted, IsRejected, IsStepped, IsTaken, TakenBy}
use Rattle.ahci_port.specs.declared.step.DeviceStep.TheVariants as step
use Rattle.ahci_port.specs.declared.step.Stepped.{Stepped}
use Rattle.ahci_port.specs.Keeping.{Keeps, Holds, slot_at}
use Rattle.ahci_port.specs.Moves.{failed_slot}
use Rattle.ahci_port.specs.Slots.{SlotState, outstanding_in}
use Rattle.ahci_port.specs.Registers as registers
use Rattle.ahci_port.proofs.AcceptingLemmas.{disk_size, request_has}
use Rattle.ahci_port.proofs.CommandLemmas.{verdict_of}
use Rattle.ahci_port.proofs.FailingLemmas.{keeps_fail}
use Rattle.ahci_port.proofs.RegisterLemmas.{tracks_refuse}
use Rattle.ahci_port.proofs.StepLemmas.{accept_may}
use Rattle.ahci_port.proofs.SetLemmas.{own, other}
use Rattle.ncq_journal.proofs.TagLemmas.{sum_one}
use Rattle.ahci_port.proofs.WorkLemmas.{past_end, op_lba}

-- the command of a request is proper
pub request_proper : (s d : ℕ) (past : List Entry) (tag : ℕ) (r : Request) → IsLawful s d past → request past tag ≡ Some r → IsProper r.work
request_proper s d past tag r h e = proper_entry past r.number (Issue tag r.work) (lawful_proper s d past h) (request_is_its_issue past tag r e)

-- an issued tag still needs three entries
owed_at_least : (past : List Entry) (tag : ℕ) → tag < 32 → phase past tag ≡ Issued → 3 ≤ owed past
owed_at_least past tag low issued =
    let f : ℕ → ℕ = λ u. owed_in (phase past u) in
    let g : ℕ → ℕ = λ u. cond (tag == u) 0 (owed_in (phase past u)) in
    let sums = sum_one f g tag low (λ u apart. other tag u 0 (owed_in (phase past u)) apart) in
    let none : g tag ≡ 0 = own tag 0 (owed_in (phase past tag)) in
    let three : f tag ≡ 3 = ap owed_in issued in
    omega arith

-- what the slot has that a call finds at a tag whose command is taken
pub record Taking (starting : List ℕ) (disk : DiskState) (past : List Entry) (slots : List (Option SlotState)) (free tag : ℕ) (slot : SlotState) : Type 0 where
  pub issued : phase past tag ≡ Issued
  pub running : halted past ≡ false
  pub here : slot_at slots tag ≡ Some slot
  pub low : tag < 32
  pub holds : Holds starting past tag slot
  pub verdict_is : verdict disk (cfis slot.window) ≡ cond (ltb (length starting / 512) (end_of (op slot.window)))
      (verdict.not_found disk (queued_of slot.window)) (verdict.accepted disk (queued_of slot.window))
  pub lacking_is : first_lacking disk (queued_of slot.window) ≡ max (lba_of (op slot.window)) (length starting / 512)
  pub lba_small : max (lba_of (op slot.window)) (length starting / 512) < 2 ^ 48
  pub its_tag : (queued_of slot.window).tag ≡ tag
  pub room : 0 < free

lba_max : (a s : ℕ) → a < 2 ^ 48 → s ≤ 4294967295 → max a s < 2 ^ 48
lba_max a s low few = omega arith

taking : (starting : List ℕ) (disk : DiskState) (regs : PortState) (slots : List (Option SlotState)) (headers : List (List ℕ)) (past : List Entry) (free tag : ℕ)
    → Keeps starting disk regs slots headers past free → phase past tag ≡ Issued → halted past ≡ false → (o : Owned starting past slots tag)
    → Taking starting disk past slots free tag o.slot
taking starting disk regs slots headers past free tag k issued running o =
    let w = o.slot.window in
    let own_tag = o.holds.tag_is in
    let calm : disk.error ≡ None = k.error_is ∙ ap (λ b. cond b (last_failure past) None) running in
    let below : w.tag < disk.depth = (let c = k.shape.slot_count in let b = o.below in omega arith) in
    let in_slot : o.slot.phase ≡ Issued = sym o.holds.phase_is ∙ issued in
    let vacant : command_of disk w.tag ≡ None =
    ap (command_of disk) own_tag ∙ k.commands tag ∙ ap (outstanding_in (halted past)) o.here
    ∙ ap (λ p. cond (in_device p && not (halted past)) (Some (queued_of w)) None) in_slot in
    let proper = request_proper (length starting / 512) disk.depth past tag (record { number = o.slot.place; work = op w }) k.lawful o.holds.request_is in
    record {
      issued = issued;
      running = running;
      here = o.here;
      low = o.low;
      holds = o.holds;
      verdict_is = verdict_of disk w o.holds.fit calm below vacant
          ∙ ap (λ b. cond b (verdict.not_found disk (queued_of w)) (verdict.accepted disk (queued_of w)))
          (past_end disk (length starting / 512) w (fit_sized w o.holds.fit) (disk_size k));
      lacking_is = ap (λ n. max n (disk_sectors disk)) (sym (op_lba w)) ∙ ap (max (lba_of (op w))) (disk_size k);
      lba_small = lba_max (lba_of (op w)) (length starting / 512) proper.lba k.shape.few;
      its_tag = o.holds.fit.tag ∙ own_tag;
      room = (let r = k.room in let n = owed_at_least past tag (let l = o.low in l) issued in omega arith);
    }

-- the tag is owned where the port refuses no Accept of it
pub owned_now : (starting : List ℕ) (disk : DiskState) (regs : PortState) (slots : List (Option SlotState)) (headers : List (List ℕ)) (past : List Entry) (free tag : ℕ) (port : PortView)
    → Keeps starting disk regs slots headers past free → past ≡ port.past → step_refusal port (step.Accept tag) ≡ None → Owned starting past slots tag
owned_now starting disk regs slots headers past free tag port k same none = owned starting disk regs slots headers past free tag k
    (λ e. absurd (let z : Issued ≡ Free = sym (accept_may port tag none).0 ∙ sym (ap (λ h. phase h tag) same) ∙ e in cc))

pub taking_now : (starting : List ℕ) (disk : DiskState) (regs : PortState) (slots : List (Option SlotState)) (headers : List (List ℕ)) (past : List Entry) (free tag : ℕ)
    (port : PortView) (found : Option SlotState) (slot : SlotState)
    → Keeps starting disk regs slots headers past free → past ≡ port.past → step_refusal port (step.Accept tag) ≡ None → found ≡ get_or slots tag found → found ≡ Some slot
    → Taking starting disk past slots free tag slot
taking_now starting disk regs slots headers past free tag port found slot k same none read is =
    let m = accept_may port tag none in
    let o = owned_now starting disk regs slots headers past free tag port k same none in
    subst (Taking starting disk past slots free tag) (owner_is o found slot read is)
    (taking starting disk regs slots headers past free tag k (ap (λ h. phase h tag) same ∙ m.0) (ap halted same ∙ m.1) o)

-- the disk has accepted a window's command, which doesn't pass the last of so many sectors
pub record Accepts (disk : DiskState) (sectors : ℕ) (w : WindowState) (fis : List ℕ) (after : DiskState) : Type 0 where
  pub within : ltb sectors (end_of (op w)) ≡ false
  pub fis_is : fis ≡ accepted_bytes
  pub spells : Spells fis (D2h (d2h_at fis))
  pub state_is : after ≡ (verdict.accepted disk (queued_of w)).state

-- the disk has refused it, since it passes the last one
pub record Refuses (disk : DiskState) (sectors tag : ℕ) (w : WindowState) (fis : List ℕ) (after : DiskState) : Type 0 where
  pub passes : ltb sectors (end_of (op w)) ≡ true
  pub fis_is : fis ≡ not_found_bytes (max (lba_of (op w)) sectors)
  pub spells : Spells fis (D2h (d2h_at fis))
  pub lba_is : (d2h_at fis).lba ≡ max (lba_of (op w)) sectors
  pub state_is : after ≡ stopped_by disk (record { tag = tag; error = 0x10; lba = max (lba_of (op w)) sectors })

-- which of the two it is, by what the disk answers to the command's bytes
pub accepts : {starting : List ℕ} {disk : DiskState} {past : List Entry} {slots : List (Option SlotState)} {free tag : ℕ} {slot : SlotState}
    → Taking starting disk past slots free tag slot → (sent fis : List ℕ) (after : DiskState)
    → AnswersSpell → sent ≡ cfis slot.window → (verdict disk sent).answer ≡ taken.Accepted fis → after ≡ (verdict disk sent).state
    → Accepts disk (length starting / 512) slot.window fis after
accepts {starting} {disk} {past} {slots} {free} {tag} {slot} t sent fis after spell same said state =
    by (ltb (length starting / 512) (end_of (op slot.window))) refl (ap (verdict disk) same ∙ t.verdict_is)
  where
    q : QueuedFields
    q = queued_of slot.window

    by : (b : Bool) → ltb (length starting / 512) (end_of (op slot.window)) ≡ b → verdict disk sent ≡ cond b (verdict.not_found disk q) (verdict.accepted disk q)
        → Accepts disk (length starting / 512) slot.window fis after
    by false e is =
        let bytes : fis ≡ accepted_bytes = (let z : taken.Accepted fis ≡ taken.Accepted accepted_bytes = sym said ∙ ap (λ v. v.answer) is in cc) in
        record {
          within = e;
          fis_is = bytes;
          spells = subst (λ b. Spells b (D2h (d2h_at b))) (sym bytes) (spell.accepted.0, refl);
          state_is = state ∙ ap (λ v. v.state) is;
        }
    by true e is = absurd (let z : taken.Accepted fis ≡ taken.Refused (not_found_bytes (first_lacking disk q)) = sym said ∙ ap (λ v. v.answer) is in cc)

pub refuses : {starting : List ℕ} {disk : DiskState} {past : List Entry} {slots : List (Option SlotState)} {free tag : ℕ} {slot : SlotState}
    → Taking starting disk past slots free tag slot → (sent fis : List ℕ) (after : DiskState)
    → AnswersSpell → sent ≡ cfis slot.window → (verdict disk sent).answer ≡ taken.Refused fis → after ≡ (verdict disk sent).state
    → Refuses disk (length starting / 512) tag slot.window fis after
refuses {starting} {disk} {past} {slots} {free} {tag} {slot} t sent fis after spell same said state =
    by (ltb (length starting / 512) (end_of (op slot.window))) refl (ap (verdict disk) same ∙ t.verdict_is)
  where
    q : QueuedFields
    q = queued_of slot.window

    lba : ℕ
    lba = max (lba_of (op slot.window)) (length starting / 512)

    by : (b : Bool) → ltb (length starting / 512) (end_of (op slot.window)) ≡ b → verdict disk sent ≡ cond b (verdict.not_found disk q) (verdict.accepted disk q)
        → Refuses disk (length starting / 512) tag slot.window fis after
    by false e is = absurd (let z : taken.Refused fis ≡ taken.Accepted accepted_bytes = sym said ∙ ap (λ v. v.answer) is in cc)
    by true e is =
        let first : fis ≡ not_found_bytes (first_lacking disk q) =
        (let z : taken.Refused fis ≡ taken.Refused (not_found_bytes (first_lacking disk q)) = sym said ∙ ap (λ v. v.answer) is in cc) in
        let bytes : fis ≡ not_found_bytes lba = first ∙ ap not_found_bytes t.lacking_is in
        let spelled = spell.not_found lba t.lba_small in
        record {
          passes = e;
          fis_is = bytes;
          spells = subst (λ b. Spells b (D2h (d2h_at b))) (sym bytes) (spelled.0, refl);
          lba_is = ap (λ b. (d2h_at b).lba) bytes ∙ sym (ap (λ f. f.lba) spelled.1);
          state_is = state ∙ ap (λ v. v.state) is ∙ ap (λ n. stopped_by disk (record { tag = q.tag; error = 0x10; lba = n })) t.lacking_is
              ∙ ap (λ u. stopped_by disk (record { tag = u; error = 0x10; lba = lba })) t.its_tag;
        }

-- a queued command is not let through as one that is not
pub queues : {starting : List ℕ} {disk : DiskState} {past : List Entry} {slots : List (Option SlotState)} {free tag : ℕ} {slot : SlotState}
    → Taking starting disk past slots free tag slot → (sent : List ℕ) (command : Plain) → sent ≡ cfis slot.window → (verdict disk sent).answer ≡ taken.Plain command → ⊥
queues {starting} {disk} {past} {slots} {free} {tag} {slot} t sent command same said =
    by (ltb (length starting / 512) (end_of (op slot.window))) (ap (verdict disk) same ∙ t.verdict_is)
  where
    by : (b : Bool) → verdict disk sent ≡ cond b (verdict.not_found disk (queued_of slot.window)) (verdict.accepted disk (queued_of slot.window)) → ⊥
    by false is = let z : taken.Plain command ≡ taken.Accepted accepted_bytes = sym said ∙ ap (λ v. v.answer) is in cc
    by true is = let z : taken.Plain command ≡ taken.Refused (not_found_bytes (first_lacking disk (queued_of slot.window))) = sym said ∙ ap (λ v. v.answer) is in cc

-- a port that refuses a command keeps what it keeps
pub keeps_refuse : (starting : List ℕ) (disk : DiskState) (regs : PortState) (slots : List (Option SlotState)) (headers : List (List ℕ)) (past : List Entry) (free left tag : ℕ) (slot : SlotState)
    → Keeps starting disk regs slots headers past free → Taking starting disk past slots free tag slot → ltb (length starting / 512) (end_of (op slot.window)) ≡ true → left + 1 ≡ free
    → (lba : ℕ) → lba ≡ max (lba_of (op slot.window)) (length starting / 512)
    → Keeps starting (stopped_by disk (record { tag = tag; error = 0x10; lba = lba })) (registers.refused regs tag)
    (set slots tag (Some (failed_slot slot (length past) 0x10 lba))) headers (Fail tag 0x10 lba ∷ past) left
keeps_refuse starting disk regs slots headers past free left tag slot k t passes room lba at =
    let past_it = ltb-true (length starting / 512) (end_of (op slot.window)) passes in
    let allowed : IsAllowed (length starting / 512) disk.depth past (Fail tag 0x10 lba) = (
      t.running,
      request_has starting past tag slot (λ r. Fails (length starting / 512) (phase past tag) r.work 0x10 lba) t.holds
          (subst (λ p. Fails (length starting / 512) p (op slot.window) 0x10 lba) (sym t.issued) (past_it, refl, at)),
    ) in
    let busy : is_busy (phase past tag) ≡ true = ap is_busy t.issued in
    keeps_fail starting disk regs (registers.refused regs tag) slots headers past free left tag 0x10 lba slot k busy t.here allowed
    (tracks_refuse disk.depth past regs tag 0x10 lba k.tracks busy) room

-- the step is the one that the definition names
pub steps_accepted : (old new : PortView) (tag : ℕ) (slot : SlotState) (answer : Stepped) → Holds old.starting old.past tag slot
    → ltb (sectors_in old) (end_of (op slot.window)) ≡ false → IsAccepted tag old new answer → IsStepped (step.Accept tag) old new answer
steps_accepted old new tag slot answer holds within done = request_has old.starting old.past tag slot (λ r. IsTaken tag r.work old new answer) holds
    (subst (λ b. TakenBy b tag (op slot.window) old new answer) (sym within) done)

pub steps_refused : (old new : PortView) (tag : ℕ) (slot : SlotState) (answer : Stepped) → Holds old.starting old.past tag slot
    → ltb (sectors_in old) (end_of (op slot.window)) ≡ true → IsRejected tag (op slot.window) old new answer → IsStepped (step.Accept tag) old new answer
steps_refused old new tag slot answer holds passes done = request_has old.starting old.past tag slot (λ r. IsTaken tag r.work old new answer) holds
    (subst (λ b. TakenBy b tag (op slot.window) old new answer) (sym passes) done)
