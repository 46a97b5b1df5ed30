-- How the device fails a command that moves sectors (ACS-3, "LBA of first unrecoverable error"): a read has moved the sectors before the LBA
-- that it names, and a write has changed none and names its first one.
use Rattle.std.specs.Prelude.{◌≡◌, ℕ, ◌+◌, ◌-◌, ◌*◌, Bool, true, false, not, ◌&&◌, ◌||◌, min, nat_eq, nat_le, nat_lt, List, [], Option, Some, None, slice_set, if◌then◌else◌}
use Rattle.ncq_core.specs.DiskFis.{setup_bytes}
use Rattle.ncq_journal.specs.Answer.{sectors_at}
use Rattle.sata_fis.specs.Encoding.{d2h_bytes}
use Rattle.sata_fis.specs.Fields.{D2hFields, QueuedFields}
use Rattle.hba_command.specs.Action.{action_of}
use Rattle.hba_command.specs.Addressing.{addressed, addressing_of}
use Rattle.hba_command.specs.Device.{after_ending}
use Rattle.hba_command.specs.Span.{SpanFields}
use Rattle.hba_command.specs.declared.action.Action.{Action}
use Rattle.hba_command.specs.declared.action.Action.TheVariants.{Queue, Sectors, Page, Store, Flush, Reply, Control, Abort}
use Rattle.hba_command.specs.declared.addressing.Addressing.{Addressing}
use Rattle.hba_command.specs.declared.entry.PrdEntry.{PrdEntry}
use Rattle.hba_command.specs.declared.protocol.Protocol.{Protocol}
use Rattle.hba_command.specs.declared.protocol.Protocol.TheVariants.{Dma}
use Rattle.hba_memory.specs.DmaWrites.{DmaWritesView}
use Rattle.hba_memory.specs.Processing.{has_processed}
use Rattle.hba_memory.specs.Runs.{placed}
use Rattle.hba_regs.specs.HbaState.{HbaState}
use Rattle.ahci_port.specs.PortView.{PortView, sectors_in}
use Rattle.ahci_port.specs.Steps.{IsStepped}
use Rattle.ahci_port.specs.declared.step.DeviceStep.TheVariants as step
use Rattle.ahci_port.specs.declared.step.Stepped.{Stepped}
use Rattle.ahci_hba.specs.Delivering.{beginning_by, d2h_fis, fis_ending, read_answer, received_put}
use Rattle.ahci_hba.specs.HbaView.{HbaView}
use Rattle.ahci_hba.specs.Keeping.{device_ended, keeping}
use Rattle.ahci_hba.specs.Moving.{answering, ending_of, ending_of_data}
use Rattle.ahci_hba.specs.Powering.{woken_for}
use Rattle.ahci_hba.specs.Queueing.{command_at, fis_put, list_in, only_after, task_in}
use Rattle.ahci_hba.specs.Transfer.{fits}
use Rattle.ahci_hba.specs.declared.last_fis.LastFis.TheVariants.{Bits}

-- a slot's command ends with a D2H Register FIS, and the slot is empty
abbrev pub vacated : HbaView → ℕ → HbaView
vacated h slot = record h { slots = slice_set h.slots slot None }

abbrev pub concluded : HbaView → ℕ → D2hFields → HbaView
concluded h slot fis =
    answering (vacated h slot) (only_after (received_put h.registers 0x40 (d2h_bytes fis))) (ending_of true (fis_ending slot fis))

-- a status and an error at an LBA, which the FIS names as the command names its own
abbrev pub ending_fis : Addressing → (status error lba : ℕ) → D2hFields
ending_fis a status error lba = addressed a (d2h_fis status error 0 0) lba

-- how many sectors from an LBA on a read has moved before another one, at most so many: those that the disk has
abbrev pub sectors_before : PortView → (first sectors lba : ℕ) → ℕ
sectors_before port first sectors lba = min (lba - first) (min sectors (sectors_in port - first))

-- the sectors as the image has them now
abbrev pub sectors_of : PortView → (first sectors : ℕ) → List ℕ
sectors_of port first sectors = sectors_at port.starting port.past first sectors

-- some sectors go to the driver, and then the FIS
abbrev pub moved_before : HbaView → ℕ → Protocol → List PrdEntry → List ℕ → ℕ → D2hFields → HbaView
moved_before h slot Dma list bytes n fis = read_answer h slot list bytes (512 * n) fis
moved_before h slot p list bytes n fis = beginning_by h slot p false n (record { list = list; bytes = bytes }) (Some fis)

-- a command that ends at an LBA is a read that has moved sectors before it
abbrev pub moves_some : PortView → Bool → SpanFields → ℕ → Bool
moves_some port write span lba = not write && nat_lt 0 (sectors_before port span.lba span.sectors lba)

abbrev pub moves_before : PortView → Action → ℕ → Bool
moves_before port (Sectors write span p) lba = moves_some port write span lba
moves_before port other lba = false

-- a read that is not queued ends before it is done: with no sector before the LBA, the FIS comes alone
abbrev pub read_failed : HbaView → ℕ → Protocol → List PrdEntry → (first n : ℕ) → D2hFields → HbaView
read_failed h slot p list first n fis =
    if nat_eq n 0 then concluded h slot fis
    else moved_before (vacated h slot) slot p list (sectors_of h.port first n) n fis

abbrev pub sectors_ended : HbaView → ℕ → List PrdEntry → Bool → SpanFields → Protocol → (status error lba : ℕ) → HbaView
sectors_ended h slot list write span p status error lba =
    if write then concluded h slot (ending_fis span.addressing status error span.lba)
    else read_failed h slot p list span.lba (sectors_before h.port span.lba span.sectors lba) (ending_fis span.addressing status error lba)

-- it fails: status 41h is DRDY with ERR
abbrev pub sectors_failed : HbaView → ℕ → List PrdEntry → Bool → SpanFields → Protocol → (error lba : ℕ) → HbaView
sectors_failed h slot list write span p error lba = sectors_ended h slot list write span p 0x41 error lba

-- the device ends a command that is not queued with a status and an error at an LBA, in place of doing it
abbrev pub ended_with : HbaView → ℕ → List PrdEntry → Action → (status error lba : ℕ) → HbaView
ended_with h slot list (Sectors write span p) status error lba = sectors_ended h slot list write span p status error lba
ended_with h slot list (Queue q) status error lba = concluded h slot (ending_fis (addressing_of (Queue q)) status error lba)
ended_with h slot list (Page page p) status error lba = concluded h slot (ending_fis (addressing_of (Page page p)) status error lba)
ended_with h slot list (Store s p) status error lba = concluded h slot (ending_fis (addressing_of (Store s p)) status error lba)
ended_with h slot list (Flush a) status error lba = concluded h slot (ending_fis (addressing_of (Flush a)) status error lba)
ended_with h slot list (Reply r) status error lba = concluded h slot (ending_fis (addressing_of (Reply r)) status error lba)
ended_with h slot list (Control reset) status error lba = concluded h slot (ending_fis (addressing_of (Control reset)) status error lba)
ended_with h slot list Abort status error lba = concluded h slot (ending_fis (addressing_of Abort) status error lba)

-- that of a slot, of which one that needs the medium makes the device Active. With ERR it aborts queued ones that are outstanding, and ICRC is counted
abbrev pub ended_at : HbaView → ℕ → (status error lba : ℕ) → HbaView
ended_at h slot status error lba =
    keeping
    (woken_for (action_of (task_in (command_at h slot)))
    (ended_with h slot (list_in (command_at h slot)) (action_of (task_in (command_at h slot))) status error lba))
    (device_ended h slot status error)

abbrev pub refused_at : HbaView → ℕ → (error lba : ℕ) → HbaView
refused_at h slot error lba = ended_at h slot 0x41 error lba

-- a queued command, if an LBA is one of its sectors
abbrev pub owns : QueuedFields → ℕ → Bool
owns q lba = nat_le q.lba lba && nat_lt lba (q.lba + q.sectors)

abbrev pub own_queued : Action → ℕ → Option QueuedFields
own_queued (Queue q) lba = if owns q lba then Some q else None
own_queued (Sectors write span p) lba = None
own_queued (Page page p) lba = None
own_queued (Store s p) lba = None
own_queued (Flush a) lba = None
own_queued (Reply r) lba = None
own_queued (Control reset) lba = None
own_queued Abort lba = None

-- the command of a slot
abbrev pub own_in : HbaView → ℕ → ℕ → Option QueuedFields
own_in h slot lba = own_queued (action_of (task_in (command_at h slot))) lba

-- and the LBA that it names if it fails there
abbrev pub fails_at : QueuedFields → ℕ → ℕ
fails_at q lba = if q.write then q.lba else lba

-- how many sectors of a queued command have moved then
abbrev pub moved_sectors : PortView → QueuedFields → ℕ → ℕ
moved_sectors port q lba = if q.write then 0 else sectors_before port q.lba q.sectors lba

-- the answer to a queued command that fails: the sectors before the LBA after a DMA Setup FIS, whose tag is the slot, and a Set Device Bits FIS with ERR
abbrev pub failed_writes : HbaState → PortView → (slot : ℕ) → QueuedFields → List PrdEntry → List ℕ → ℕ → DmaWritesView
failed_writes s port slot q list bytes n =
    if nat_eq n 0 then only_after (fis_put s port 0x58 8)
    else record {
      before = received_put s 0x00 (setup_bytes (record q { tag = slot }));
      content = placed list bytes;
      count = [];
      after = fis_put s port 0x58 8;
    }

abbrev pub failure_answered : HbaView → PortView → (slot : ℕ) → QueuedFields → List PrdEntry → List ℕ → ℕ → ℕ → HbaView
failure_answered h port slot q list bytes n error =
    answering (record h { port = port }) (failed_writes h.registers port slot q list bytes n)
    (ending_of_data (nat_eq n 0 || fits (512 * n) list) (has_processed list (512 * n)) (Bits 0x41 error 0))

-- and ICRC is counted
abbrev pub queue_failed : HbaView → PortView → (slot : ℕ) → QueuedFields → List PrdEntry → List ℕ → ℕ → ℕ → HbaView
queue_failed h port slot q list bytes n error = keeping (failure_answered h port slot q list bytes n error) (after_ending false 0x41 error h.device)

-- the port fails the request of a slot at a sector
pub record FailsRequest (slot error at : ℕ) (old new : HbaView) : Type 0 where
  pub answer : Stepped
  pub stepped : IsStepped (step.Fail slot error at) old.port new.port answer
  pub rest : new ≡ record old { port = new.port }

pub record IsFailed (slot error lba : ℕ) (q : QueuedFields) (old new : HbaView) : Type 0 where
  pub middle : HbaView
  pub failed : FailsRequest slot error (fails_at q lba) old middle
  pub answered : new ≡ queue_failed old middle.port slot q (list_in (command_at old slot)) (sectors_of old.port q.lba (moved_sectors old.port q lba)) (moved_sectors old.port q lba) error

-- of the command of a slot
abbrev pub Fails : (slot error lba : ℕ) → Option QueuedFields → HbaView → HbaView → Type 0
Fails slot error lba (Some q) old new = IsFailed slot error lba q old new
Fails slot error lba None old new = ⊥
