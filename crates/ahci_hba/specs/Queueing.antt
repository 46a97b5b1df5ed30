-- What the device does with a queued command of a slot (AHCI 1.3.1, section 5.3; ACS-3, "Native Command Queuing").
use Rattle.std.specs.Prelude.{◌≡◌, ℕ, ◌+◌, ◌-◌, ◌*◌, ◌%◌, Bool, true, false, not, nat_le, nat_lt, ◌&&◌, ◌||◌, List, [], ◌∷◌, take, drop, Option, None, Some, IsSomeAnd, is_some, slice_index_or, slice_set, if◌then◌else◌}
use Rattle.std.specs.List.{list_any, range_with_len}
use Rattle.sata_fis.specs.Fields.{QueuedFields}
use Rattle.word_bits.specs.Places.{has_place}
use Rattle.hba_command.specs.Action.{action_of}
use Rattle.hba_command.specs.Addressing.{reached}
use Rattle.hba_command.specs.MultipleMode.{lacks_blocks}
use Rattle.hba_command.specs.Power.{is_awake}
use Rattle.hba_command.specs.declared.action.Action.{Action}
use Rattle.hba_command.specs.declared.action.Action.TheVariants.{Queue, Sectors, Page, Store, Flush, Reply, Control, Abort}
use Rattle.hba_command.specs.declared.entry.PrdEntry.{PrdEntry}
use Rattle.hba_command.specs.declared.task.Task.{Task}
use Rattle.hba_command.specs.declared.task.Task.TheVariants.{Unknown}
use Rattle.hba_memory.specs.DmaWrites.{DmaWritesView}
use Rattle.hba_memory.specs.Reading.{Header}
use Rattle.hba_memory.specs.Runs.{Put}
use Rattle.hba_memory.specs.Table.{wrapped}
use Rattle.hba_regs.specs.HbaState.{HbaPort, HbaState}
use Rattle.hba_regs.specs.Linking.{is_up}
use Rattle.hba_regs.specs.PortStates.{p_idle_selects, p_select_cmd}
use Rattle.hba_regs.specs.Receiving.{moved}
use Rattle.hba_regs.specs.declared.soft_reset.SoftReset.{SoftReset}
use Rattle.hba_regs.specs.declared.soft_reset.SoftReset.TheVariants.{Off}
use Rattle.ncq_journal.specs.Halted.{halted}
use Rattle.ncq_journal.specs.Work.{Work, Read, Write}
use Rattle.ahci_table.specs.Window.{WindowState}
use Rattle.ahci_table.specs.declared.piece_layout.PieceLayout.TheVariants as layout
use Rattle.hba_command.specs.Span.{SpanFields}
use Rattle.ahci_port.specs.PortView.{PortView, owner_of, sectors_in}
use Rattle.ahci_port.specs.Steps.{IsCollected, IsStepped, IsSubmitted, answer_to}
use Rattle.ahci_port.specs.Slots.{bytes_in}
use Rattle.ahci_port.specs.declared.step.DeviceStep.TheVariants as step
use Rattle.ahci_port.specs.declared.step.Stepped.{Stepped}
use Rattle.ahci_port.specs.declared.step.Stepped.TheVariants as stepped
use Rattle.ahci_hba.specs.HbaView.{CommandView, Fetched, Sent, HbaView, DmaView, Idle, Fetching, Served}
use Rattle.ahci_hba.specs.Marking.{marked_for, marks_after}
use Rattle.ahci_hba.specs.Moving.{answering, ending_of}
use Rattle.ahci_hba.specs.Powering.{awake}
use Rattle.ahci_hba.specs.declared.last_fis.LastFis.{LastFis}
use Rattle.ahci_hba.specs.declared.last_fis.LastFis.TheVariants as last_fis

-- the command of a slot
abbrev pub command_at : HbaView → ℕ → Option CommandView
command_at h slot = slice_index_or h.slots slot None

abbrev pub is_idle : DmaView → Bool
is_idle Idle = true
is_idle other = false

-- a command that is not queued, so that the device is busy with it alone
abbrev pub acts_alone : Action → Bool
acts_alone (Queue q) = false
acts_alone (Sectors write span p) = true
acts_alone (Page page p) = true
acts_alone (Store s p) = true
acts_alone (Flush a) = true
acts_alone (Reply r) = true
acts_alone (Control reset) = true
acts_alone Abort = true

abbrev pub is_alone : Task → Bool
is_alone t = acts_alone (action_of t)

abbrev pub has_alone : Option CommandView → Bool
has_alone None = false
has_alone (Some (Fetched t list bytes)) = is_alone t
has_alone (Some (Sent t list)) = is_alone t

-- a command that is with the port
abbrev pub is_sent : Option CommandView → Bool
is_sent (Some (Sent t list)) = true
is_sent other = false

-- a queued command, read or with the port
abbrev pub has_queued : Option CommandView → Bool
has_queued None = false
has_queued (Some (Fetched t list bytes)) = not (is_alone t)
has_queued (Some (Sent t list)) = not (is_alone t)

-- the device aborts each command but one that reads log 10h, until that is read or a reset comes: a queued command has failed, or one that is not queued
-- came while queued ones were outstanding (ACS-3, "Native Command Queuing")
abbrev pub is_failed : HbaView → Bool
is_failed h = halted h.port.past || is_some h.device.collision

-- the command of a slot is not queued, and comes while queued ones are outstanding
abbrev pub comes_under_queued : HbaView → ℕ → Bool
comes_under_queued h slot = has_alone (command_at h slot) && (list_any has_queued h.slots && not (is_failed h))

-- the sectors are on the disk, and the command reaches them
abbrev pub is_on : PortView → SpanFields → Bool
is_on port span = nat_le (span.lba + span.sectors) (reached span.addressing (sectors_in port))

-- the device has a tag: those below the depth that it reports (ACS-3, IDENTIFY DEVICE, word 75)
abbrev pub has_tag : HbaView → QueuedFields → Bool
has_tag h q = nat_lt q.tag h.depth

-- READ or WRITE MULTIPLE, while SET MULTIPLE MODE has set no block size
abbrev pub has_no_blocks : HbaView → Action → Bool
has_no_blocks h (Sectors write span p) = lacks_blocks h.device.multiple p
has_no_blocks h other = false

-- a command goes to the port: a queued one whose tag the device has, or one that moves sectors of the disk while no queued one is outstanding,
-- whose blocks have a size, and that reads no marked sector
abbrev pub moves_sectors : HbaView → Action → Bool
moves_sectors h (Queue q) = has_tag h q
moves_sectors h (Sectors write span p) =
    is_on h.port span && not (list_any has_queued h.slots) && not (lacks_blocks h.device.multiple p) && not (is_some (marked_for h (Sectors write span p)))
moves_sectors h (Page page p) = false
moves_sectors h (Store s p) = false
moves_sectors h (Flush a) = false
moves_sectors h (Reply r) = false
moves_sectors h (Control reset) = false
moves_sectors h Abort = false

abbrev pub goes_to_port : HbaView → Option CommandView → Bool
goes_to_port h (Some (Fetched t list bytes)) = moves_sectors h (action_of t)
goes_to_port h (Some (Sent t list)) = false
goes_to_port h None = false

-- a command that is read and not yet sent
abbrev pub is_fetched : Option CommandView → Bool
is_fetched (Some (Fetched t list bytes)) = true
is_fetched other = false

-- the PRDT of a slot's command
abbrev pub list_in : Option CommandView → List PrdEntry
list_in (Some (Fetched t list bytes)) = list
list_in (Some (Sent t list)) = list
list_in None = []

-- and what it asks
abbrev pub task_in : Option CommandView → Task
task_in (Some (Fetched t list bytes)) = t
task_in (Some (Sent t list)) = t
task_in None = Unknown

-- the port processes its command list: ST is 1, nothing has failed, and the link is up
abbrev pub is_running : HbaPort → Bool
is_running p = p.st && not p.halted && is_up p.link

-- the controller may take a step with the command list: it is processed, and nothing is read or written just now
abbrev pub is_listening : HbaView → Bool
is_listening h = is_running h.registers.port && is_idle h.dma

-- there is no software reset
abbrev pub is_off : SoftReset → Bool
is_off Off = true
is_off other = false

-- the device may move: its FISes are accepted, since FRE is 1 (section 3.3.7, FRE), it isn't held in a software reset, and it isn't in Sleep
-- (ACS-3, "SLEEP")
abbrev pub is_ready : HbaView → Bool
is_ready h = is_listening h && h.registers.port.fre && is_off h.registers.port.soft && is_awake h.power

abbrev pub is_empty : Option CommandView → Bool
is_empty None = true
is_empty (Some c) = false

-- a slot's command waits to be issued: its bit of PxCI is set, and it is not read yet. A bit that is set again while the slot's command is
-- outstanding waits for that command's end (the standard forbids it: section 5.5.1)
abbrev pub waits : HbaView → ℕ → Bool
waits h slot = has_place h.registers.port.ci slot && is_empty (command_at h slot)

-- how many slots behind the one with the highest priority a slot is, in a command list of so many
unfoldable pub distance : (ncs first slot : ℕ) → ℕ
distance ncs first slot = (slot + ncs - first) % ncs

abbrev pub distance_of : HbaPort → ℕ → ℕ
distance_of p slot = distance p.capabilities.ncs p.first slot

-- some slot of higher priority waits too (section 3.3.7, CCS: after CCS the slots behind it come, the first one after the last)
abbrev pub is_before : HbaView → ℕ → ℕ → Bool
is_before h slot other =
    waits h other && nat_lt (distance_of h.registers.port other) (distance_of h.registers.port slot)

abbrev pub is_overtaken : HbaView → ℕ → Bool
is_overtaken h slot = list_any (is_before h slot) (range_with_len 0 32)

-- P:Idle to P:SelectCmd and P:FetchCmd (section 5.3.2): a slot's command is read if BSY and DRQ are 0, it waits, and none of higher
-- priority does; and not while the device is busy with a command that is not queued
abbrev pub may_fetch : HbaView → ℕ → Bool
may_fetch h slot =
    is_listening h && p_idle_selects h.registers.port && waits h slot && not (is_overtaken h slot) && not (list_any has_alone h.slots)

-- it becomes CCS, and is read: first its header, of 32 bytes in the command list
abbrev pub fetching : HbaView → ℕ → HbaView
fetching h slot =
    record h {
      registers = moved h.registers (p_select_cmd slot h.registers.port);
      dma = Fetching slot (Header (wrapped (h.registers.port.clb + 32 * slot)));
    }

-- what a command asks of the disk; a write has these bytes
abbrev pub work_for : Bool → ℕ → ℕ → List ℕ → Work
work_for write lba sectors bytes = if write then Write lba bytes else Read lba sectors

abbrev pub work_of_action : Action → List ℕ → Work
work_of_action (Queue q) bytes = work_for q.write q.lba q.sectors bytes
work_of_action (Sectors write span p) bytes = work_for write span.lba span.sectors bytes
work_of_action (Page page p) bytes = Read 0 0
work_of_action (Store s p) bytes = Read 0 0
work_of_action (Flush a) bytes = Read 0 0
work_of_action (Reply r) bytes = Read 0 0
work_of_action (Control reset) bytes = Read 0 0
work_of_action Abort bytes = Read 0 0

abbrev pub asked_for : Task → List ℕ → Work
asked_for t bytes = work_of_action (action_of t) bytes

-- the bytes that a command had before it was asked: those of a write, else those that are left
abbrev pub put_back : Work → List ℕ → List ℕ
put_back (Write lba bytes) left = bytes
put_back (Read lba sectors) left = left

-- the FIS of so many bytes at a place of the port's received FIS area
abbrev pub fis_at : PortView → ℕ → ℕ → List ℕ
fis_at port place n = take n (drop place port.area)

-- it is written to the driver's received FIS area, while FRE is 1 (section 4.2.1)
abbrev pub fis_put : HbaState → PortView → ℕ → ℕ → List Put
fis_put s port place n =
    if s.port.fre then (record { address = wrapped (s.port.fb + place); bytes = fis_at port place n }) ∷ [] else []

-- an answer of one FIS alone
abbrev pub only_after : List Put → DmaWritesView
only_after puts = record { before = []; content = []; count = []; after = puts }

-- the command of a slot is sent to the port: its request is in the journal
abbrev pub sent_to : HbaView → ℕ → CommandView → PortView → HbaView
sent_to h slot c port = record h { port = port; slots = slice_set h.slots slot (Some c) }

pub record IsSent (slot : ℕ) (t : Task) (list : List PrdEntry) (bytes : List ℕ) (old new : HbaView) : Type 0 where
  pub port : PortView
  pub submitted : IsSubmitted slot (asked_for t bytes) false layout.Packed old.port port
  pub sent : new ≡ sent_to old slot (Sent t list) port

-- of a command that is read
abbrev pub Sends : ℕ → Option CommandView → HbaView → HbaView → Type 0
Sends slot (Some (Fetched t list bytes)) old new = IsSent slot t list bytes old new
Sends slot other old new = ⊥

-- what the answer to an acceptance says to the registers: the command is taken, or it passes the last sector
abbrev pub accepting : ℕ → Stepped → LastFis
accepting slot (stepped.Accepted n) = last_fis.Register 0x40 0x00 false slot
accepting slot other = last_fis.Register 0x41 0x10 true slot

-- the device takes a slot's command or refuses it: a D2H Register FIS
abbrev pub is_taken : Stepped → Bool
is_taken (stepped.Accepted n) = true
is_taken other = false

-- a command that is not queued has its D2H Register FIS at its end
abbrev pub after_acceptance : ℕ → Bool → HbaView → PortView → Stepped → HbaView
after_acceptance slot alone h port answer =
    if alone && is_taken answer then record h { port = port }
    else answering (record h { port = port }) (only_after (fis_put h.registers port 0x40 20)) (ending_of true (accepting slot answer))

-- whether it is taken or refused, the device is Active then
pub record IsAccepted (slot : ℕ) (alone : Bool) (old new : HbaView) : Type 0 where
  pub port : PortView
  pub answer : Stepped
  pub stepped : IsStepped (step.Accept slot) old.port port answer
  pub answered : new ≡ awake (after_acceptance slot alone old port answer)

-- the answer to a slot's command waits to be put together, and what it has written is not marked any more
abbrev pub handed_over : HbaView → ℕ → WindowState → HbaView
handed_over h slot window =
    record h {
      slots = slice_set h.slots slot None;
      dma = Served slot (task_in (command_at h slot)) window (list_in (command_at h slot));
      marks = marks_after (action_of (task_in (command_at h slot))) h.marks;
    }

-- the device moves the data of a slot's command and completes it, and its answer is taken from the port: the window has the bytes of
-- the answer by the journal. What a write has written is not marked any more
pub record IsServed (slot : ℕ) (t : Task) (list : List PrdEntry) (old new : HbaView) : Type 0 where
  pub middle : PortView
  pub port : PortView
  pub answer : Stepped
  pub stepped : IsStepped (step.Serve (record { items = slot ∷ [] })) old.port middle answer
  pub collected : IsCollected slot middle port
  pub window : WindowState
  pub number : ℕ
  pub owner : owner_of old.port slot ≡ Some number
  pub answered : IsSomeAnd (answer_to middle number) (λ a. a.bytes ≡ bytes_in a.outcome window)
  pub served : new ≡ record old { port = port; slots = slice_set old.slots slot None; dma = Served slot t window list; marks = marks_after (action_of t) old.marks }
