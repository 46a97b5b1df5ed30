-- A command that is not queued and comes while queued ones are outstanding aborts them.
use Rattle.std.proofs.Common.{◌≡◌, ℕ, Bool, true, false, not, ◌&&◌, ◌||◌, Option, None, Some, if◌then◌else◌, is_some, refl, ap, ◌∙◌}
use Rattle.std.specs.List.{list_any}
use Rattle.sata_fis.specs.Encoding.{d2h_bytes}
use Rattle.sata_fis.specs.Fields.{QueuedFields}
use Rattle.hba_command.specs.Device.{collided}
use Rattle.hba_command.specs.declared.action.Action.{Action}
use Rattle.hba_command.specs.declared.action.Action.TheVariants.{Queue}
use Rattle.hba_memory.specs.DmaWrites.{DmaWritesView, is_none, remaining}
use Rattle.ncq_journal.specs.Halted.{halted}
use Rattle.ahci_port.specs.Faults.{op_refusal}
use Rattle.ahci_hba.specs.Delivering.{aborted, fis_ending, received_put}
use Rattle.ahci_hba.specs.Executing.{is_aborted, reads_error_log}
use Rattle.ahci_hba.specs.Failing.{concluded, vacated}
use Rattle.ahci_hba.specs.HbaView.{HbaView, Idle, Writing}
use Rattle.ahci_hba.specs.Keeping.{device_ended, keeping}
use Rattle.ahci_hba.specs.Moving.{answering, ended, ending_of}
use Rattle.ahci_hba.specs.Queueing.{command_at, goes_to_port, has_alone, has_no_blocks, has_queued, has_tag, is_failed, is_ready, only_after}
use Rattle.ahci_hba.specs.Stepping.{is_answered, may_send, work_at}
use Rattle.ahci_hba.specs.declared.ending.Ending.{Ending}

-- an answer leaves the port
keeps_port : (h : HbaView) (p : DmaWritesView) (e : Ending) → (answering h p e).port ≡ h.port
keeps_port h p e = by (is_none (remaining p))
  where
    by : (b : Bool) → (if b then record h { registers = ended h.registers e; dma = Idle } else record h { dma = Writing p e }).port ≡ h.port
    by true = refl
    by false = refl

-- the error is pending, or the queue has failed before
is_pending : (alone queued halts : Bool) (was : Option ℕ) → alone ≡ true → queued ≡ true
    → (halts || is_some (collided (alone && (queued && not (halts || is_some was))) 0x41 0x04 was)) ≡ true
is_pending true true true was e f = refl
is_pending true true false None e f = refl
is_pending true true false (Some error) e f = refl
is_pending true false halts was e f = cc
is_pending false queued halts was e f = cc

pub aborts_queue : (old new : HbaView) (slot : ℕ) → has_alone (command_at old slot) ≡ true → list_any has_queued old.slots ≡ true
    → new ≡ keeping (concluded old slot aborted) (device_ended old slot 0x41 0x04) → is_failed new ≡ true
aborts_queue old new slot alone queued made =
    ap is_failed made
    ∙ ap (λ p. halted p.past || is_some (device_ended old slot 0x41 0x04).collision)
    (keeps_port (vacated old slot) (only_after (received_put old.registers 0x40 (d2h_bytes aborted))) (ending_of true (fis_ending slot aborted)))
    ∙ is_pending (has_alone (command_at old slot)) (list_any has_queued old.slots) (halted old.port.past) old.device.collision alone queued

pub aborts_all : (h : HbaView) (a : Action) → list_any has_queued h.slots ≡ true → is_aborted h a ≡ true
aborts_all h a e = ap (λ q. q || (is_failed h && not (reads_error_log a)) || has_no_blocks h a) e

-- ---- while its error is pending

pub sends_none : (h : HbaView) (slot : ℕ) → is_some h.device.collision ≡ true → may_send h slot ≡ false
sends_none h slot e =
    by (is_ready h) (is_some h.device.collision) (goes_to_port h (command_at h slot)) (not (is_some (op_refusal h.port slot (work_at (command_at h slot))))) e
  where
    by : (ready pending goes taken : Bool) → pending ≡ true → (ready && ((not pending && goes) && taken)) ≡ false
    by true true goes taken e = refl
    by false pending goes taken e = refl
    by true false goes taken e = cc

pub answers_queued : (h : HbaView) (q : QueuedFields) → is_some h.device.collision ≡ true → is_answered h (Queue q) ≡ true
answers_queued h q e = by (halted h.port.past) (is_some h.device.collision) (not (has_tag h q)) e
  where
    by : (halts pending tagless : Bool) → pending ≡ true → ((halts || pending) || tagless) ≡ true
    by true pending tagless e = refl
    by false true tagless e = refl
    by false false tagless e = cc

pub aborts_others : (h : HbaView) (a : Action) → is_some h.device.collision ≡ true → reads_error_log a ≡ false → is_aborted h a ≡ true
aborts_others h a e other =
    by (list_any has_queued h.slots) (halted h.port.past) (is_some h.device.collision) (reads_error_log a) (has_no_blocks h a) e other
  where
    by : (queued halts pending reads lacks : Bool) → pending ≡ true → reads ≡ false → (queued || ((halts || pending) && not reads) || lacks) ≡ true
    by true halts pending reads lacks e other = refl
    by false true pending false lacks e other = refl
    by false false true false lacks e other = refl
    by false halts false reads lacks e other = cc
    by false halts pending true lacks e other = cc
