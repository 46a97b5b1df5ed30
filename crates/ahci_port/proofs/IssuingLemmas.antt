-- A port keeps what it keeps when a command is issued, issued again, or collected.
use Rattle.std.proofs.Common.{◌≡◌, ◌≢◌, ℕ, ◌+◌, ◌/◌, ◌<◌, ◌≤◌, Bool, false, not, ◌&&◌, cond, List, [], ◌∷◌, length, set, ap, sym, refl, subst, ◌∙◌, Option, None, Some, arith}
use Rattle.std.specs.Option.{option_or, option_map}
use Rattle.std.proofs.lemmas.List.{length-set, get_or-set_same, get_or-set_other}
use Rattle.ahci_regs.specs.PortState.{PortState}
use Rattle.ahci_table.specs.Command.{op, queued_of}
use Rattle.ahci_table.specs.Fit.{IsFit}
use Rattle.ncq_journal.specs.declared.phase.Phase.{Phase}
use Rattle.ncq_journal.specs.declared.phase.Phase.TheVariants.{Free, Issued, Held, Done}
use Rattle.ncq_journal.specs.declared.plain.Plain.{Plain}
use Rattle.ncq_journal.specs.Answer.{given}
use Rattle.ncq_journal.specs.History.{entry_at}
use Rattle.ncq_journal.specs.Image.{sector_at}
use Rattle.ncq_journal.specs.Sector.{sector}
use Rattle.ncq_journal.specs.Tags.{in_device}
use Rattle.sector_store.specs.Reserved.{StayReserved}
use Rattle.ncq_core.specs.DiskState.{DiskState, is_reserved_in}
use Rattle.ncq_journal.specs.Entry.{Entry, Issue, Reissue, Collect, Unqueued}
use Rattle.ncq_journal.specs.Halted.{halted}
use Rattle.ncq_journal.specs.Lawful.{IsAllowed, IsProper}
use Rattle.ncq_journal.specs.Phase.{phase, is_failed}
use Rattle.ncq_journal.specs.Request.{request}
use Rattle.ncq_journal.proofs.AnsweredLemmas.{no_answer_yet}
use Rattle.ncq_journal.proofs.OwedLemmas.{owed_is_few, owed_moves}
use Rattle.ncq_journal.proofs.PhaseLemmas.{below_depth}
use Rattle.ahci_port.specs.Keeping.{Keeps, Holds, HasSlot, HasHeader, HasSectors, IsOf, slot_at}
use Rattle.ahci_port.specs.Slots.{SlotState, outstanding_in, bytes_in}
use Rattle.ahci_port.specs.Standing.{last_failure}
use Rattle.ahci_port.specs.Tracking.{Tracks}
use Rattle.ahci_port.specs.Registers as registers
use Rattle.ahci_port.proofs.AnswerLemmas.{answers, answer_stays}
use Rattle.ahci_port.proofs.FailureLemmas.{halted_same}
use Rattle.ahci_port.proofs.KeepingLemmas.{keeps_step, sectors_stay, slot_stays, DiskAfter, HeadersAfter}
use Rattle.ahci_port.proofs.RegisterLemmas.{tracks_issue, tracks_reissue, tracks_collect}
use Rattle.ahci_port.proofs.SetLemmas.{own, other}

-- a disk that an entry leaves as it is
pub disk_stays : (starting : List ℕ) (disk : DiskState) (regs : PortState) (slots : List (Option SlotState))
    (headers : List (List ℕ)) (past : List Entry) (free tag : ℕ) (entry : Entry) (s : Option SlotState)
    → Keeps starting disk regs slots headers past free → ((i : ℕ) → sector_at disk.image i ≡ sector starting (entry ∷ past) i)
    → halted (entry ∷ past) ≡ halted past → last_failure (entry ∷ past) ≡ last_failure past
    → outstanding_in (halted past) s ≡ outstanding_in (halted past) (slot_at slots tag) → HasSectors (length starting / 512) disk.reserved s
    → DiskAfter starting disk disk slots past entry tag s
disk_stays starting disk regs slots headers past free tag entry s k sectors calm last command room = record {
  depth_same = refl;
  size_same = refl;
  count_same = k.shape.command_count;
  sectors = sectors;
  error_is = k.error_is ∙ sym (ap (λ b. cond b (last_failure (entry ∷ past)) None) calm ∙ ap (λ o. cond (halted past) o None) last);
  own_command = k.commands tag ∙ sym command ∙ ap (λ b. outstanding_in b s) (sym calm);
  other_commands = λ u apart. k.commands u ∙ ap (λ b. outstanding_in b (slot_at slots u)) (sym calm);
  stay = λ i is. is;
  own_room = room;
}

-- a command list that an entry leaves as it is
pub headers_stay : (headers : List (List ℕ)) (tag : ℕ) (s : Option SlotState) → length headers ≡ 32 → HasHeader headers tag s → HeadersAfter headers headers tag s
headers_stay headers tag s count h = record { count_same = count; own_header = h; other_headers = λ u apart. refl }

-- a window is issued for a free tag
pub keeps_issue : (starting : List ℕ) (disk : DiskState) (regs : PortState) (slots : List (Option SlotState)) (headers : List (List ℕ)) (past : List Entry) (free left tag : ℕ) (slot : SlotState)
    → Keeps starting disk regs slots headers past free → tag < disk.depth → phase past tag ≡ Free → halted past ≡ false → slot_at slots tag ≡ None
    → IsFit slot.window → slot.window.tag ≡ tag → IsProper (op slot.window) → slot.place ≡ length past → IsOf slot (op slot.window) → slot.phase ≡ Issued → slot.ended ≡ None → HasSectors (length starting / 512) disk.reserved (Some slot) → 128 ≤ left
    → Keeps starting disk (registers.issued regs tag) (set slots tag (Some slot)) (set headers tag slot.window.header) (Issue tag (op slot.window) ∷ past) left
keeps_issue starting disk regs slots headers past free left tag slot k below is_free running vacant fit tag_is proper number of issued unended sectors room =
    let work = op slot.window in
    let entry = Issue tag work in
    keeps_step starting disk disk regs (registers.issued regs tag) slots headers (set headers tag slot.window.header) past free left tag entry (Some slot) k below
    (below, is_free, running, proper)
    (λ u apart. record { phase_same = other tag u Issued (phase past u) apart; request_same = other tag u _ (request past u) apart; unanswered = refl })
    (record {
      phase_is = own tag Issued (phase past tag) ∙ sym issued;
      taken = λ e. absurd (let z : Issued ≡ Free = sym issued ∙ e in cc);
      request_is = own tag _ (request past tag) ∙ ap (λ n. Some (record { number = n; work = work })) (sym number);
      is_of = of;
      fit = fit;
      tag_is = tag_is;
      answer_is = ap (λ o. option_or o (given starting past entry (entry_at past slot.place))) (no_answer_yet starting past slot.place (omega arith))
          ∙ sym (ap (λ e. option_map (λ x. record { entry = x.entry; outcome = x.outcome; bytes = bytes_in x.outcome slot.window }) e) unended);
    })
    (disk_stays starting disk regs slots headers past free tag entry (Some slot) k k.sectors
    (halted_same past entry tag (ap is_failed is_free) (ap is_failed (own tag Issued (phase past tag))) (λ u apart. other tag u Issued (phase past u) apart))
    refl (ap (λ p. cond (in_device p && not (halted past)) (Some (queued_of slot.window)) None) issued ∙ sym (ap (outstanding_in (halted past)) vacant)) sectors)
    (record {
      count_same = length-set headers tag slot.window.header ∙ k.shape.header_count;
      own_header = get_or-set_same headers tag slot.window.header [] (let c = k.shape.header_count in let d = k.shape.shallow in omega arith);
      other_headers = λ u apart. get_or-set_other headers tag u slot.window.header [] apart;
    })
    (tracks_issue disk.depth past regs tag work k.tracks below k.shape.shallow)
    (let few = owed_is_few (entry ∷ past) in omega arith)

-- what an entry of one tag leaves of its slot, where it only changes its phase and answers nobody
pub slot_moves : (starting : List ℕ) (past : List Entry) (entry : Entry) (tag : ℕ) (slot : SlotState) (p : Phase) → Holds starting past tag slot
    → phase (entry ∷ past) tag ≡ p → p ≢ Free → request (entry ∷ past) tag ≡ request past tag → answers entry tag ≡ false → Holds starting (entry ∷ past) tag (record slot { phase = p })
slot_moves starting past entry tag slot p h moved taken same unanswered = record {
  phase_is = moved;
  taken = taken;
  request_is = same ∙ h.request_is;
  is_of = h.is_of;
  fit = h.fit;
  tag_is = h.tag_is;
  answer_is = answer_stays starting past entry tag (record { number = slot.place; work = op slot.window }) h.request_is unanswered ∙ h.answer_is;
}

-- the slot of a tag that is in a phase that isn't free
pub slot_in : (starting : List ℕ) (past : List Entry) (tag : ℕ) (s : Option SlotState) (p : Phase) → HasSlot starting past tag s
    → phase past tag ≡ p → p ≢ Free → (slot : SlotState) × (s ≡ Some slot) × (slot.phase ≡ p) × Holds starting past tag slot
slot_in starting past tag None p h is taken = absurd (taken (sym is ∙ h))
slot_in starting past tag (Some slot) p h is taken = (slot, refl, sym h.phase_is ∙ is, h)

-- a held command is issued again
pub keeps_reissue : (starting : List ℕ) (disk : DiskState) (regs : PortState) (slots : List (Option SlotState)) (headers : List (List ℕ)) (past : List Entry) (free left tag : ℕ) (slot : SlotState)
    → Keeps starting disk regs slots headers past free → phase past tag ≡ Held → halted past ≡ false → slot_at slots tag ≡ Some slot → left + 1 ≡ free
    → Keeps starting disk (registers.issued regs tag) (set slots tag (Some (record slot { phase = Issued }))) headers (Reissue tag ∷ past) left
keeps_reissue starting disk regs slots headers past free left tag slot k held running here room =
    let below = below_depth _ disk.depth past tag Held k.lawful held (λ e. absurd (cc)) in
    let own_slot : Holds starting past tag slot = subst (HasSlot starting past tag) here (k.each tag) in
    let moves = owed_moves _ disk.depth past (Reissue tag) k.shape.shallow (k.lawful, (held, running)) in
    let in_slot : slot.phase ≡ Held = sym own_slot.phase_is ∙ held in
    keeps_step starting disk disk regs (registers.issued regs tag) slots headers headers past free left tag (Reissue tag) (Some (record slot { phase = Issued })) k below
    (held, running)
    (λ u apart. record { phase_same = other tag u Issued (phase past u) apart; request_same = refl; unanswered = refl })
    (slot_moves starting past (Reissue tag) tag slot Issued own_slot (own tag Issued (phase past tag)) (λ e. absurd (cc)) refl refl)
    (disk_stays starting disk regs slots headers past free tag (Reissue tag) (Some (record slot { phase = Issued })) k k.sectors
    (halted_same past (Reissue tag) tag (ap is_failed held) (ap is_failed (own tag Issued (phase past tag))) (λ u apart. other tag u Issued (phase past u) apart))
    refl (sym (ap (outstanding_in (halted past)) here ∙ ap (λ p. cond (in_device p && not (halted past)) (Some (queued_of slot.window)) None) in_slot))
    (subst (HasSectors (length starting / 512) disk.reserved) here (k.reserved tag)))
    (headers_stay headers tag (Some (record slot { phase = Issued })) k.shape.header_count (subst (HasHeader headers tag) here (k.listed tag)))
    (tracks_reissue disk.depth past regs tag k.tracks below k.shape.shallow)
    (let r = k.room in omega arith)

-- a request that is done is collected
pub keeps_collect : (starting : List ℕ) (disk : DiskState) (regs : PortState) (slots : List (Option SlotState)) (headers : List (List ℕ)) (past : List Entry) (free left tag : ℕ) (slot : SlotState)
    → Keeps starting disk regs slots headers past free → phase past tag ≡ Done → slot_at slots tag ≡ Some slot → left + 1 ≡ free
    → Keeps starting disk regs (set slots tag None) headers (Collect tag ∷ past) left
keeps_collect starting disk regs slots headers past free left tag slot k done here room =
    let below = below_depth _ disk.depth past tag Done k.lawful done (λ e. absurd (cc)) in
    let own_slot : Holds starting past tag slot = subst (HasSlot starting past tag) here (k.each tag) in
    let moves = owed_moves _ disk.depth past (Collect tag) k.shape.shallow (k.lawful, done) in
    let in_slot : slot.phase ≡ Done = sym own_slot.phase_is ∙ done in
    keeps_step starting disk disk regs regs slots headers headers past free left tag (Collect tag) None k below
    done
    (λ u apart. record { phase_same = other tag u Free (phase past u) apart; request_same = refl; unanswered = refl })
    (own tag Free (phase past tag))
    (disk_stays starting disk regs slots headers past free tag (Collect tag) None k k.sectors
    (halted_same past (Collect tag) tag (ap is_failed done) (ap is_failed (own tag Free (phase past tag))) (λ u apart. other tag u Free (phase past u) apart))
    refl (sym (ap (outstanding_in (halted past)) here ∙ ap (λ p. cond (in_device p && not (halted past)) (Some (queued_of slot.window)) None) in_slot)) tt)
    (headers_stay headers tag None k.shape.header_count tt)
    (tracks_collect disk.depth past regs tag k.tracks done)
    (let r = k.room in omega arith)

-- a command that is not queued moves no slot
pub keeps_unqueued : (starting : List ℕ) (disk : DiskState) (regs moved : PortState) (slots : List (Option SlotState)) (headers : List (List ℕ)) (past : List Entry) (free left : ℕ) (command : Plain)
    → Keeps starting disk regs slots headers past free → IsAllowed (length starting / 512) disk.depth past (Unqueued command) → Tracks disk.depth past moved → 128 ≤ left
    → Keeps starting disk moved slots headers (Unqueued command ∷ past) left
keeps_unqueued starting disk regs moved slots headers past free left command k allowed tracks room = record {
  shape = k.shape;
  lawful = (k.lawful, allowed);
  tracks = record { depth_is = tracks.depth_is; st = tracks.st; fre = tracks.fre; sact_is = tracks.sact_is; ci_is = tracks.ci_is };
  sectors = k.sectors;
  commands = k.commands;
  error_is = k.error_is;
  each = λ u. slot_stays starting past (Unqueued command) u (slot_at slots u) refl refl refl (k.each u);
  listed = k.listed;
  reserved = k.reserved;
  room = (let few = owed_is_few (Unqueued command ∷ past) in omega arith);
}

-- more is reserved on the disk
pub keeps_reserved : (starting : List ℕ) (disk : DiskState) (regs : PortState) (slots : List (Option SlotState)) (headers : List (List ℕ)) (past : List Entry) (free : ℕ) (reserved : List Bool)
    → Keeps starting disk regs slots headers past free → StayReserved (is_reserved_in disk.reserved) (is_reserved_in reserved)
    → Keeps starting (record disk { reserved = reserved }) regs slots headers past free
keeps_reserved starting disk regs slots headers past free reserved k stay = record {
  shape = k.shape;
  lawful = k.lawful;
  tracks = k.tracks;
  sectors = k.sectors;
  commands = k.commands;
  error_is = k.error_is;
  each = k.each;
  listed = k.listed;
  reserved = λ u. sectors_stay (length starting / 512) disk.reserved reserved (slot_at slots u) stay (k.reserved u);
  room = k.room;
}
