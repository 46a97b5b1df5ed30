-- What the slots say of what requests read.
use Rattle.std.proofs.Common.{◌≡◌, ℕ, ◌*◌, cond, List, ap, sym, ◌∙◌, Option, None, Some}
use Rattle.ahci_table.specs.Command.{op}
use Rattle.ncq_journal.specs.Entry.{Entry}
use Rattle.ncq_journal.specs.Request.{request}
use Rattle.ncq_journal.specs.Work.{Work, Read, Write}
use Rattle.ahci_port.specs.Keeping.{HasSlot, IsOf}
use Rattle.ahci_port.specs.Looking.{read_of, read_by, read_length}
use Rattle.ahci_port.specs.PortView.{is_free}
use Rattle.ahci_port.specs.Slots.{SlotState, read_in}
use Rattle.ahci_port.proofs.ReadingLemmas.{taken_free}

-- a slot with the direction and count of a command reads as much
reads : (slot : SlotState) (work : Work) → IsOf slot work → cond slot.is_write None (Some (512 * slot.sectors)) ≡ read_of work
reads slot (Read lba sectors) h = ap (λ b. cond b None (Some (512 * slot.sectors))) h.0 ∙ ap (λ n. Some (512 * n)) h.2
reads slot (Write lba bytes) h = ap (λ b. cond b None (Some (512 * slot.sectors))) h.0

-- the slot says what the journal does
pub read_here : (starting : List ℕ) (past : List Entry) (tag : ℕ) (s : Option SlotState) → HasSlot starting past tag s → read_in s ≡ read_length past tag
read_here starting past tag None h = sym (ap (λ p. cond (is_free p) None (read_by (request past tag))) h)
read_here starting past tag (Some slot) h =
    reads slot (op slot.window) h.is_of ∙ ap read_by (sym h.request_is)
    ∙ sym (ap (λ b. cond b None (read_by (request past tag))) (ap is_free h.phase_is ∙ taken_free slot.phase h.taken))
