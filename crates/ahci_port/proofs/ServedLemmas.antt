-- What a tag has whose command is served.
use Rattle.std.proofs.Common.{◌≡◌, ℕ, ◌*◌, ◌/◌, ◌<◌, Bool, true, false, not, ◌&&◌, cond, List, length, ap, sym, refl, ◌∙◌, subst, Option, None, Some, is_some, arith}
use Rattle.ahci_regs.specs.PortState.{PortState}
use Rattle.ahci_table.specs.Command.{op, queued_of}
use Rattle.ahci_table.specs.Fit.{IsFit}
use Rattle.ahci_table.specs.Text.{text}
use Rattle.ahci_table.specs.Window.{WindowState}
use Rattle.ncq_journal.specs.Image.{sector_at}
use Rattle.ncq_journal.specs.Sector.{sector}
use Rattle.sata_fis.specs.Command.{asked_by}
use Rattle.sata_fis.specs.Layout.{h2d_at}
use Rattle.ncq_journal.specs.declared.phase.Phase.TheVariants.{Free, Accepted}
use Rattle.ncq_core.specs.declared.serve_fault.ServeFault.TheVariants as serve_fault
use Rattle.ncq_core.specs.DiskState.{DiskState, command_of}
use Rattle.ncq_journal.specs.Entry.{Entry, Complete}
use Rattle.ncq_journal.specs.Halted.{halted}
use Rattle.ncq_journal.specs.Phase.{phase}
use Rattle.ncq_core.specs.Serving.{serve_fault, HasCommandRoom, HasMoved, HasRoom, MovesFor, IsRead}
use Rattle.ncq_journal.specs.Tags.{in_device}
use Rattle.ncq_journal.proofs.OwedLemmas.{owed_moves}
use Rattle.ahci_port.specs.Keeping.{HasSectors, Holds, Keeps}
use Rattle.ahci_port.specs.Memory.{IsKept}
use Rattle.ahci_port.specs.Steps.{MovesData}
use Rattle.ahci_port.specs.Slots.{SlotState, outstanding_in}
use Rattle.ahci_port.specs.Standing.{last_failure}
use Rattle.ahci_port.proofs.MemoryLemmas.{MovedWindow, fit_sized, moved_window, kept_scattered}
use Rattle.ahci_port.proofs.OwningLemmas.{Owned, owned}
use Rattle.ahci_port.proofs.ServingLemmas.{read_text}
use Rattle.ahci_port.proofs.WorkLemmas.{op_direction, op_lba, op_read, op_sectors, op_write}

pub record Serving (starting : List ℕ) (disk : DiskState) (past : List Entry) (slots : List (Option SlotState)) (free tag : ℕ) : Type 0 where
  pub accepted : phase past tag ≡ Accepted
  pub running : halted past ≡ false
  pub owner : Owned starting past slots tag
  pub there : command_of disk tag ≡ Some (queued_of owner.slot.window)
  pub served_now : serve_fault disk tag ≡ None
  pub memory : HasCommandRoom disk (queued_of owner.slot.window)
  pub room : 0 < free

-- the command has the memory that its slot has
room_of_command : {past : List Entry} {tag : ℕ} (starting : List ℕ) (disk : DiskState) (slot : SlotState) → length disk.image ≡ length starting → Holds starting past tag slot
    → HasSectors (length starting / 512) disk.reserved (Some slot) → HasCommandRoom disk (queued_of slot.window)
room_of_command starting disk slot size holds room =
    let w = slot.window in
    let q = queued_of w in
    let r = disk.reserved in
    let whole = subst (λ n. HasRoom (n / 512) r slot.is_write slot.lba slot.sectors) (sym size) room in
    let direction = subst (λ b. HasRoom (length disk.image / 512) r b slot.lba slot.sectors) (holds.is_of.0 ∙ op_direction w) whole in
    let lba = subst (λ n. HasRoom (length disk.image / 512) r q.write n slot.sectors) (holds.is_of.1 ∙ op_lba w) direction in
    subst (λ n. HasRoom (length disk.image / 512) r q.write q.lba n) (holds.is_of.2 ∙ op_sectors w (fit_sized w holds.fit)) lba

pub serving : (starting : List ℕ) (disk : DiskState) (regs : PortState) (slots : List (Option SlotState)) (headers : List (List ℕ)) (past : List Entry) (free tag : ℕ)
    → Keeps starting disk regs slots headers past free → phase past tag ≡ Accepted → halted past ≡ false → Serving starting disk past slots free tag
serving starting disk regs slots headers past free tag k accepted running =
    let o = owned starting disk regs slots headers past free tag k (λ e. absurd (let z : Accepted ≡ Free = sym accepted ∙ e in cc)) in
    let in_slot : o.slot.phase ≡ Accepted = sym o.holds.phase_is ∙ accepted in
    let there : command_of disk tag ≡ Some (queued_of o.slot.window) =
    k.commands tag ∙ ap (outstanding_in (halted past)) o.here
    ∙ ap (λ p. cond (in_device p && not (halted past)) (Some (queued_of o.slot.window)) None) in_slot
    ∙ ap (λ b. cond (not b) (Some (queued_of o.slot.window)) None) running in
    let calm : disk.error ≡ None = k.error_is ∙ ap (λ b. cond b (last_failure past) None) running in
    let moves = owed_moves _ disk.depth past (Complete tag) k.shape.shallow (k.lawful, (accepted, running)) in
    record {
      accepted = accepted;
      running = running;
      owner = o;
      there = there;
      served_now = ap (λ e. cond (is_some e) (Some serve_fault.Stopped) (cond (is_some (command_of disk tag)) None (Some serve_fault.NotAccepted))) calm
          ∙ ap (λ x. cond (is_some x) None (Some serve_fault.NotAccepted)) there;
      memory = room_of_command starting disk o.slot k.shape.same_size o.holds (subst (HasSectors (length starting / 512) disk.reserved) o.here (k.reserved tag));
      room = (let r = k.room in omega arith);
    }

-- what becomes of the window of a command that is served
pub moves_data : (starting : List ℕ) (past : List Entry) (image image' : List ℕ) (old new : WindowState) → ((i : ℕ) → sector_at image i ≡ sector starting past i) → IsFit old → IsFit new
    → IsKept old new → HasMoved (queued_of old) image image' (text old) (text new) → MovesData starting past (op old) old new
moves_data starting past image image' old new each fit fit' kept moved = by (queued_of old).write refl
  where
    window : MovedWindow old new
    window = moved_window (queued_of old) old new image image' refl fit fit' kept moved

    by : (b : Bool) → (queued_of old).write ≡ b → MovesData starting past (op old) old new
    by true e = subst (λ x. MovesData starting past x old new) (sym (op_write old e)) (window.write_same e)
    by false e =
        let read : IsRead (queued_of old) image image' (text old) (text new) = subst (λ b. MovesFor b (queued_of old) image image' (text old) (text new)) e moved in
        let is = read_text starting past image image' (text old) (text new) (queued_of old) each (fit_sized old fit) read in
        let q_same : queued_of new ≡ queued_of old = ap (λ c. asked_by (h2d_at c)) kept.cfis_is in
        let len = sym (ap length is) ∙ fit_sized new fit' ∙ ap (λ q. 512 * q.sectors) q_same ∙ sym (fit_sized old fit) in
        subst (λ x. MovesData starting past x old new) (sym (op_read old e)) (kept_scattered old new _ kept is len)
