-- A port keeps what it keeps when the device completes a command.
use Rattle.std.proofs.Common.{◌-◌, take, ◌≡◌, ℕ, ◌+◌, ◌*◌, ◌/◌, ◌^◌, Bool, true, false, cond, List, ◌∷◌, ◌++◌, length, set, ap, sym, refl, subst, ◌∙◌, Option, None, Some, arith}
use Rattle.std.proofs.lemmas.List.{length-set, get_or-set_same, get_or-set_other, take_all, drop_all, append-nil}
use Rattle.ahci_regs.specs.PortState.{PortState}
use Rattle.ahci_table.specs.Command.{op, queued_of}
use Rattle.ahci_table.specs.Text.{text}
use Rattle.ahci_table.specs.Window.{WindowState}
use Rattle.ncq_journal.specs.declared.outcome.Outcome.TheVariants as outcome
use Rattle.ncq_journal.specs.declared.phase.Phase.TheVariants.{Accepted, Done}
use Rattle.ncq_journal.specs.Answer.{completes, sectors_at}
use Rattle.sector_store.specs.Reserved.{StayReserved}
use Rattle.ncq_core.specs.DiskState.{DiskState, is_reserved_in}
use Rattle.ncq_journal.specs.Entry.{Entry, Complete}
use Rattle.ncq_journal.specs.Halted.{halted}
use Rattle.ncq_journal.specs.Image.{sector_at, covers, IsWrittenOver}
use Rattle.ncq_journal.specs.Lawful.{IsAllowed, IsLawful}
use Rattle.ncq_journal.specs.Phase.{phase, is_failed}
use Rattle.ncq_journal.specs.Sector.{sector, completed}
use Rattle.ncq_core.specs.Serving.{HasMoved, MovesFor, IsRead, IsWritten, bytes_at, byte_count, served}
use Rattle.ncq_journal.specs.Work.{Read, Write}
use Rattle.ncq_journal.proofs.AnsweredLemmas.{completed_now}
use Rattle.ncq_journal.proofs.ImageLemmas.{joined-sectors}
use Rattle.ncq_journal.proofs.OwedLemmas.{owed_moves}
use Rattle.ncq_journal.proofs.PhaseLemmas.{below_depth}
use Rattle.sata_fis.specs.Command.{asked_by}
use Rattle.sata_fis.specs.Fields.{QueuedFields}
use Rattle.sata_fis.specs.Layout.{h2d_at}
use Rattle.ahci_port.specs.Keeping.{Keeps, Holds, HasSlot, HasHeader, HasSectors, IsOf, slot_at}
use Rattle.ahci_port.specs.Slots.{SlotState, outstanding_in, answer_in, bytes_in}
use Rattle.ahci_port.specs.Standing.{last_failure}
use Rattle.ahci_port.specs.Moves.{served_slot, outcome_of}
use Rattle.ahci_port.proofs.MemoryLemmas.{MovedWindow}
use Rattle.ahci_regs.specs.Receiving.{after_bits}
use Rattle.ahci_port.proofs.AnswerLemmas.{apart_answers}
use Rattle.ahci_port.proofs.FailureLemmas.{halted_same}
use Rattle.ahci_port.proofs.IssuingLemmas.{headers_stay}
use Rattle.ahci_port.proofs.KeepingLemmas.{keeps_step, sectors_stay}
use Rattle.ahci_port.proofs.RegisterLemmas.{tracks_complete}
use Rattle.ahci_port.proofs.SetLemmas.{own, other}
use Rattle.ahci_port.proofs.WorkLemmas.{IsSized, op_read, op_write, op_direction}

-- it asks for what it asked for
pub op_same : (old new : WindowState) → MovedWindow old new → op new ≡ op old
op_same old new m = by (queued_of old).write refl
  where
    q_same : queued_of new ≡ queued_of old
    q_same = ap (λ c. asked_by (h2d_at c)) m.cfis_same

    by : (b : Bool) → (queued_of old).write ≡ b → op new ≡ op old
    by true e = ap op (m.write_same e)
    by false e = op_read new (ap (λ q. q.write) q_same ∙ e) ∙ ap (λ q. Read q.lba q.sectors) q_same ∙ sym (op_read old e)

-- the text of a read is its sectors
pub read_text : (starting : List ℕ) (past : List Entry) (image image' text text' : List ℕ) (q : QueuedFields) → ((i : ℕ) → sector_at image i ≡ sector starting past i)
    → length text ≡ 512 * q.sectors → IsRead q image image' text text' → text' ≡ sectors_at starting past q.lba q.sectors
read_text starting past image image' text text' q each sized h =
    h.text_read ∙ ap (λ x. bytes_at q image ++ x) (drop_all (byte_count q) text (omega arith)) ∙ append-nil (bytes_at q image)
    ∙ joined-sectors (sector starting past) image each q.lba q.sectors

-- the answer that the slot holds is that of the entry
answer_of_slot : (starting : List ℕ) (past : List Entry) (image image' : List ℕ) (slot : SlotState) (w : WindowState) → ((i : ℕ) → sector_at image i ≡ sector starting past i)
    → slot.is_write ≡ (queued_of slot.window).write → IsSized slot.window → HasMoved (queued_of slot.window) image image' (text slot.window) (text w)
    → Some (completes starting past (op slot.window)) ≡ answer_in (served_slot slot (length past) w)
answer_of_slot starting past image image' slot w each direction sized moved = by (queued_of slot.window).write refl
  where
    q : QueuedFields
    q = queued_of slot.window

    by : (b : Bool) → (queued_of slot.window).write ≡ b → Some (completes starting past (op slot.window)) ≡ answer_in (served_slot slot (length past) w)
    by true e =
        ap (λ x. Some (completes starting past x)) (op_write slot.window e)
        ∙ sym (ap (λ b. Some (record { entry = length past; outcome = outcome_of b; bytes = bytes_in (outcome_of b) w })) (direction ∙ e))
    by false e =
        let read : IsRead (queued_of slot.window) image image' (text slot.window) (text w) = subst (λ b. MovesFor b (queued_of slot.window) image image' (text slot.window) (text w)) e moved in
        ap (λ x. Some (completes starting past x)) (op_read slot.window e)
        ∙ ap (λ x. Some (record { entry = length past; outcome = outcome.Read; bytes = x }))
        (sym (read_text starting past image image' (text slot.window) (text w) (queued_of slot.window) each sized read))
        ∙ sym (ap (λ b. Some (record { entry = length past; outcome = outcome_of b; bytes = bytes_in (outcome_of b) w })) (direction ∙ e))

-- the image is that of the journal with the entry
moved_sectors : (starting : List ℕ) (past : List Entry) (image image' : List ℕ) (slot : SlotState) (number : ℕ) (w : WindowState) → ((i : ℕ) → sector_at image i ≡ sector starting past i)
    → IsSized slot.window → HasMoved (queued_of slot.window) image image' (text slot.window) (text w)
    → (i : ℕ) → sector_at image' i ≡ completed (Some (record { number = number; work = op slot.window })) i (sector starting past i)
moved_sectors starting past image image' slot number w each sized moved i = by (queued_of slot.window).write refl
  where
    by : (b : Bool) → (queued_of slot.window).write ≡ b → sector_at image' i ≡ completed (Some (record { number = number; work = op slot.window })) i (sector starting past i)
    by true e =
        let h : IsWritten (queued_of slot.window) image image' (text slot.window) (text w) = subst (λ b. MovesFor b (queued_of slot.window) image image' (text slot.window) (text w)) e moved in
        let all : take (byte_count (queued_of slot.window)) (text slot.window) ≡ text slot.window = take_all (byte_count (queued_of slot.window)) (text slot.window) (omega arith) in
        let over : IsWrittenOver (queued_of slot.window).lba (text slot.window) image image' = subst (λ t. IsWrittenOver (queued_of slot.window).lba t image image') all h.sectors_written in
        over i ∙ ap (cond (covers (Write (queued_of slot.window).lba (text slot.window)) i) (sector_at (text slot.window) (i - (queued_of slot.window).lba))) (each i)
        ∙ ap (λ x. completed (Some (record { number = number; work = x })) i (sector starting past i)) (sym (op_write slot.window e))
    by false e =
        let h : IsRead (queued_of slot.window) image image' (text slot.window) (text w) = subst (λ b. MovesFor b (queued_of slot.window) image image' (text slot.window) (text w)) e moved in
        ap (λ x. sector_at x i) h.image_same ∙ each i ∙ ap (λ x. completed (Some (record { number = number; work = x })) i (sector starting past i)) (sym (op_read slot.window e))

size_stays : (q : QueuedFields) (image image' text text' : List ℕ) → HasMoved q image image' text text' → length image' ≡ length image
size_stays q image image' text text' moved = by q.write refl
  where
    by : (b : Bool) → q.write ≡ b → length image' ≡ length image
    by true e = let h : IsWritten q image image' text text' = subst (λ b. MovesFor b q image image' text text') e moved in h.size_same
    by false e = let h : IsRead q image image' text text' = subst (λ b. MovesFor b q image image' text text') e moved in ap length h.image_same

-- an accepted command is served
pub keeps_serve : (starting : List ℕ) (disk : DiskState) (regs : PortState) (slots : List (Option SlotState)) (headers : List (List ℕ))
    (past : List Entry) (free left tag : ℕ) (slot : SlotState) (image : List ℕ) (reserved : List Bool) (w : WindowState)
    → Keeps starting disk regs slots headers past free → StayReserved (is_reserved_in disk.reserved) (is_reserved_in reserved) → phase past tag ≡ Accepted → halted past ≡ false → slot_at slots tag ≡ Some slot → IsSized slot.window
    → HasMoved (queued_of slot.window) disk.image image (text slot.window) (text w) → MovedWindow slot.window w → left + 1 ≡ free
    → Keeps starting (served disk tag image reserved) (after_bits regs 0x40 0 true (2 ^ tag)) (set slots tag (Some (served_slot slot (length past) w))) headers (Complete tag ∷ past) left
keeps_serve starting disk regs slots headers past free left tag slot image reserved w k stay accepted running here sized moved window room =
    let below = below_depth _ disk.depth past tag Accepted k.lawful accepted (λ e. absurd (cc)) in
    let own_slot : Holds starting past tag slot = subst (HasSlot starting past tag) here (k.each tag) in
    let allowed : IsAllowed (length starting / 512) disk.depth past (Complete tag) = (accepted, running) in
    let lawful : IsLawful (length starting / 512) disk.depth (Complete tag ∷ past) = (k.lawful, allowed) in
    let moves = owed_moves _ disk.depth past (Complete tag) k.shape.shallow lawful in
    let same = op_same slot.window w window in
    let direction = own_slot.is_of.0 ∙ op_direction slot.window in
    let slot' = served_slot slot (length past) w in
    let still = halted_same past (Complete tag) tag (ap is_failed accepted) (ap is_failed (own tag Done (phase past tag))) (λ u apart. other tag u Done (phase past u) apart) in
    keeps_step starting disk (served disk tag image reserved) regs (after_bits regs 0x40 0 true (2 ^ tag)) slots headers headers past free left tag (Complete tag) (Some slot') k below allowed
    (λ u apart. record { phase_same = other tag u Done (phase past u) apart; request_same = refl; unanswered = apart_answers tag u apart })
    (record {
      phase_is = own tag Done (phase past tag);
      taken = λ e. absurd (cc);
      request_is = own_slot.request_is ∙ ap (λ x. Some (record { number = slot.place; work = x })) (sym same);
      is_of = subst (IsOf slot) (sym same) own_slot.is_of;
      fit = window.fit;
      tag_is = window.tag_same ∙ own_slot.tag_is;
      answer_is = completed_now (length starting / 512) disk.depth starting past tag (record { number = slot.place; work = op slot.window }) lawful own_slot.request_is
          ∙ answer_of_slot starting past disk.image image slot w k.sectors direction sized moved;
    })
    (record {
      depth_same = refl;
      size_same = size_stays (queued_of slot.window) disk.image image (text slot.window) (text w) moved;
      count_same = length-set disk.commands tag None ∙ k.shape.command_count;
      sectors = λ i. moved_sectors starting past disk.image image slot slot.place w k.sectors sized moved i ∙ ap (λ o. completed o i (sector starting past i)) (sym own_slot.request_is);
      error_is = k.error_is ∙ sym (ap (λ b. cond b (last_failure past) None) still);
      own_command = get_or-set_same disk.commands tag None None (let c = k.shape.command_count in let d = k.shape.shallow in omega arith);
      other_commands = λ u apart. get_or-set_other disk.commands tag u None None apart ∙ k.commands u ∙ ap (λ b. outstanding_in b (slot_at slots u)) (sym still);
      stay = stay;
      own_room = sectors_stay (length starting / 512) disk.reserved reserved (Some slot) stay (subst (HasSectors (length starting / 512) disk.reserved) here (k.reserved tag));
    })
    (headers_stay headers tag (Some slot') k.shape.header_count (subst (HasHeader headers tag) here (k.listed tag) ∙ sym window.header_same))
    (tracks_complete disk.depth past regs tag k.tracks (let d = k.shape.shallow in omega arith) accepted)
    (let r = k.room in omega arith)
