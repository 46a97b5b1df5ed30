-- What each call of the port does, where it is taken: one entry is appended to the journal, or a Complete for each tag that
-- is served; the registers move by the writes and FISes of the call, and its FISes are at their places in the received
-- FIS area.
use Rattle.std.specs.Prelude.{◌≡◌, ◌≢◌, ℕ, ◌+◌, ◌<◌, ◌≤◌, max, Bool, true, false, ◌&&◌, nat_lt, List, [], ◌∷◌, ◌++◌, length, take, Option, None, Some, IsSomeAnd, slice_index, slice_set}
use Rattle.std.specs.List.{fold}
use Rattle.std.specs.Option.{option_and_then, option_map}
use Rattle.ahci_table.specs.Build.{IsBuilt}
use Rattle.ahci_table.specs.Command.{op, queued_of}
use Rattle.ahci_table.specs.Defaults.{list_of}
use Rattle.ahci_table.specs.Scatter.{IsScattered}
use Rattle.ahci_table.specs.Window.{WindowState}
use Rattle.ahci_table.specs.declared.piece_layout.PieceLayout.{PieceLayout}
use Rattle.ncq_journal.specs.declared.plain.Plain.{Plain}
use Rattle.ncq_journal.specs.declared.plain.Plain.TheVariants as plain
use Rattle.ncq_journal.specs.Answer.{Answer, answer, sectors_at}
use Rattle.ncq_core.specs.DiskFis.{accepted_bytes, not_found_bytes, pio_bytes, setup_bytes, completed_bytes, failed_bytes}
use Rattle.ncq_journal.specs.Entry.{Entry, Issue, Accept, Complete, Fail, Recover, Reissue, Collect, Unqueued, Zero}
use Rattle.ncq_journal.specs.Image.{IsZeroedOver, is_write, sector_at}
use Rattle.ncq_journal.specs.Lawful.{IsLawful, end_of}
use Rattle.ncq_journal.specs.Numbering.{answer_numbered, place_of}
use Rattle.ncq_journal.specs.Request.{request}
use Rattle.ncq_journal.specs.Sector.{sector}
use Rattle.ncq_journal.specs.Work.{Work, Read, Write, lba_of, sectors_of}
use Rattle.ahci_port.specs.Carrying.{area_after, carried}
use Rattle.ahci_port.specs.Headline.{Headline}
use Rattle.ahci_port.specs.PortView.{PortView, next_number, sectors_in, window_at, put_at, setup_place, pio_place, register_place, bits_place}
use Rattle.ahci_port.specs.Registers as registers
use Rattle.ahci_port.specs.Unqueued.{sent_by}
use Rattle.ahci_port.specs.declared.step.DeviceStep.{DeviceStep}
use Rattle.ahci_port.specs.declared.step.DeviceStep.TheVariants as step
use Rattle.ahci_port.specs.declared.step.Stepped.{Stepped}
use Rattle.ahci_port.specs.declared.step.Stepped.TheVariants.{Accepted, Completed, Failed}

-- the journal has one entry more, with the next number, slot 0 has sent what the entry says, no sector has changed, and the
-- slots are as many as before
pub record Appends (old new : PortView) (entry : Entry) : Type 0 where
  pub starting_same : new.starting ≡ old.starting
  pub image_same : new.image ≡ old.image
  pub first_same : new.first ≡ old.first
  pub depth_same : new.depth ≡ old.depth
  pub grows_same : new.grows ≡ old.grows
  pub past_is : new.past ≡ entry ∷ old.past
  pub sent_is : new.sent ≡ sent_by entry old.sent

-- some entries are appended where room for them was reserved: no memory is asked for
pub record UsesRoom (count : ℕ) (old new : PortView) : Type 0 where
  pub room_is : new.room + count ≡ old.room
  pub held_same : new.held ≡ old.held

-- for how many entries a call that may ask for memory makes room before it appends its own: for that one, and for all that
-- requests can need after it
abbrev pub call_room : ℕ
call_room = 129

-- less memory is held than the port's entries and those of one more call need: only then can such a call lack memory
abbrev pub LacksRoom : PortView → Type 0
LacksRoom port = port.held < length port.past + call_room

-- only then can the issue of a command lack memory, but for the bytes of a write that are copied: entries are too few, or it writes to a
-- store that grows
abbrev pub MayLack : (can_grow : Bool) → PortView → Work → Type 0
MayLack can_grow port work = ((is_write work && (can_grow && port.grows)) ≡ false) → LacksRoom port

-- an entry is appended once there is room for so many. Memory is asked for only where less is held than they need
pub record ReservesRoom (old new : PortView) : Type 0 where
  pub room_is : new.room + 1 ≡ max old.room call_room
  pub held_same : length old.past + call_room ≤ old.held → new.held ≡ old.held
  pub held_more : old.held ≤ new.held

-- the answer to the request of a number, with the number of its entry
abbrev pub answer_to : PortView → ℕ → Option Answer
answer_to port number = option_map (answer_numbered port.first) (option_and_then (answer port.starting port.past) (place_of port.first number))

-- a window is issued: it is in its slot
pub record IsIssued (w : WindowState) (old new : PortView) : Type 0 where
  pub appended : Appends old new (Issue w.tag (op w))
  pub room : ReservesRoom old new
  pub registers_are : new.registers ≡ registers.issued old.registers w.tag
  pub area_same : new.area ≡ old.area
  pub windows_are : new.windows ≡ slice_set old.windows w.tag (Some w)

-- a command is submitted, with FUA or without: it is issued by a window whose data lie as a layout says
pub record IsSubmitted (tag : ℕ) (work : Work) (fua : Bool) (layout : PieceLayout) (old new : PortView) : Type 0 where
  pub window : WindowState
  pub built : IsBuilt tag work fua (list_of layout (sectors_of work)) window
  pub issued : IsIssued window old new

-- the device takes a command: a D2H Register FIS
pub record IsAccepted (tag : ℕ) (old new : PortView) (answer : Stepped) : Type 0 where
  pub answer_is : answer ≡ Accepted (next_number old)
  pub appended : Appends old new (Accept tag)
  pub room : UsesRoom 1 old new
  pub registers_are : new.registers ≡ registers.accepted old.registers tag
  pub area_is : new.area ≡ put_at register_place accepted_bytes old.area
  pub windows_same : new.windows ≡ old.windows

-- the first sector of a command that the disk lacks
abbrev pub first_lacking : PortView → Work → ℕ
first_lacking port work = max (lba_of work) (sectors_in port)

-- the device refuses a command that passes the last sector: a D2H Register FIS with IDNF
pub record IsRejected (tag : ℕ) (work : Work) (old new : PortView) (answer : Stepped) : Type 0 where
  pub answer_is : answer ≡ Failed (next_number old)
  pub appended : Appends old new (Fail tag 0x10 (first_lacking old work))
  pub room : UsesRoom 1 old new
  pub registers_are : new.registers ≡ registers.refused old.registers tag
  pub area_is : new.area ≡ put_at register_place (not_found_bytes (first_lacking old work)) old.area
  pub windows_same : new.windows ≡ old.windows

-- the command passes the last sector
abbrev pub passes_end : PortView → Work → Bool
passes_end port work = nat_lt (sectors_in port) (end_of work)

-- the device refuses a command that passes the end, and accepts every other
abbrev pub TakenBy : (passes : Bool) → ℕ → Work → PortView → PortView → Stepped → Type 0
TakenBy true tag work old new answer = IsRejected tag work old new answer
TakenBy false tag work old new answer = IsAccepted tag old new answer

abbrev pub IsTaken : ℕ → Work → PortView → PortView → Stepped → Type 0
IsTaken tag work old new answer = TakenBy (passes_end old work) tag work old new answer

-- the journal once the commands of some tags are completed, one after the other
abbrev pub completes : List Entry → List ℕ → List Entry
completes past tags = fold (λ past tag. Complete tag ∷ past) past tags

-- the journal has a Complete more for each tag of a list, in its order; disk, slots and slot 0 are as before
pub record CompletesAll (tags : List ℕ) (old new : PortView) : Type 0 where
  pub starting_same : new.starting ≡ old.starting
  pub first_same : new.first ≡ old.first
  pub depth_same : new.depth ≡ old.depth
  pub grows_same : new.grows ≡ old.grows
  pub past_is : new.past ≡ completes old.past tags
  pub sent_same : new.sent ≡ old.sent

-- a window once its command's data have moved, after a journal: a read's sectors are its text, and no other byte changes
abbrev pub MovesData : List ℕ → List Entry → Work → WindowState → WindowState → Type 0
MovesData starting past (Write lba bytes) old new = new ≡ old
MovesData starting past (Read lba sectors) old new = IsScattered old 0 (sectors_at starting past lba sectors) new

-- the window of the k-th tag of a list, whose command is completed after those of the tags before it
abbrev pub HasMoved : List ℕ → PortView → PortView → ℕ → Type 0
HasMoved tags old new k =
    IsSomeAnd (window_at old (slice_index tags k)) (λ w.
    IsSomeAnd (window_at new (slice_index tags k)) (MovesData old.starting (completes old.past (take k tags)) (op w) w))

-- the tag is none of a list's
abbrev pub IsNoneOf : List ℕ → ℕ → Type 0
IsNoneOf tags tag = (k : ℕ) → k < length tags → slice_index tags k ≢ tag

-- the received FIS area with the DMA Setup FIS of a window's command
abbrev pub with_setup : Option WindowState → List ℕ → List ℕ
with_setup None area = area
with_setup (Some w) area = put_at setup_place (setup_bytes (queued_of w)) area

-- the device moves the data of the commands of some tags and completes them, one after the other: a DMA Setup FIS and the
-- data for each; then one Set Device Bits FIS for all
pub record IsServed (tags : List ℕ) (old new : PortView) (answer : Stepped) : Type 0 where
  pub answer_is : answer ≡ Completed (next_number old) (length tags)
  pub appended : CompletesAll tags old new
  pub room : UsesRoom (length tags) old new
  pub registers_are : new.registers ≡ registers.completed old.registers tags
  pub area_is : new.area ≡ put_at bits_place (completed_bytes (registers.word_of_tags tags)) (fold (λ area tag. with_setup (window_at old tag) area) old.area tags)
  pub moved : (k : ℕ) → k < length tags → HasMoved tags old new k
  pub others_same : (tag : ℕ) → IsNoneOf tags tag → window_at new tag ≡ window_at old tag

-- the device fails a command: a Set Device Bits FIS with ERR
pub record IsFailed (tag error lba : ℕ) (old new : PortView) (answer : Stepped) : Type 0 where
  pub answer_is : answer ≡ Failed (next_number old)
  pub appended : Appends old new (Fail tag error lba)
  pub room : UsesRoom 1 old new
  pub registers_are : new.registers ≡ registers.failed old.registers error
  pub area_is : new.area ≡ put_at bits_place (failed_bytes error) old.area
  pub windows_same : new.windows ≡ old.windows

-- the device has taken a step
abbrev pub IsStepped : DeviceStep → PortView → PortView → Stepped → Type 0
IsStepped (step.Accept tag) old new answer = IsSomeAnd (request old.past tag) (λ r. IsTaken tag r.work old new answer)
IsStepped (step.Serve tags) old new answer = IsServed tags.items old new answer
IsStepped (step.Fail tag error lba) old new answer = IsFailed tag error lba old new answer

-- a request is collected: its slot is free
pub record IsCollected (tag : ℕ) (old new : PortView) : Type 0 where
  pub appended : Appends old new (Collect tag)
  pub room : UsesRoom 1 old new
  pub registers_same : new.registers ≡ old.registers
  pub area_same : new.area ≡ old.area
  pub windows_are : new.windows ≡ slice_set old.windows tag None

-- the journal is handed out, with its memory: the image is the starting image from here on, and the next entry has the next
-- number
abbrev pub trimmed : PortView → PortView
trimmed port = record port { starting = port.image; first = next_number port; past = []; room = 0; held = 0 }

-- a port with the journal of an earlier one before its own, over the starting image of the earlier one
abbrev pub over_both : (earlier port : PortView) → PortView
over_both earlier port = record port { starting = earlier.starting; past = port.past ++ earlier.past; first = earlier.first }

-- what comes after a trim speaks of the whole history: each sector is that of both parts of the journal over the image at
-- the beginning of the first one, and wherever the headline holds of a port that goes on from here, it holds over both parts
pub record GoesOn (old new : PortView) : Type 0 where
  pub sectors : (later : List Entry) → IsLawful (sectors_in new) new.depth later → (s : ℕ) → sector new.starting later s ≡ sector old.starting (later ++ old.past) s
  pub headline : (port : PortView) → port.starting ≡ new.starting → port.depth ≡ new.depth → Headline port → Headline (over_both old port)

-- each sector of the new starting image is the one that the old journal gives: no command that was not completed has changed it
abbrev pub KeepsCompleted : (old new : PortView) → Type 0
KeepsCompleted old new = (s : ℕ) → sector_at new.starting s ≡ sector old.starting old.past s

-- what comes after a reset speaks of the whole history too, but of no request that was dropped: each sector is that of both parts
-- of the journal over the image at the beginning of the first one, the answer to each later request is that of both parts, and a
-- request that had its answer before the reset keeps it
pub record Follows (old new : PortView) : Type 0 where
  pub sectors : (later : List Entry) → IsLawful (sectors_in new) new.depth later → (s : ℕ) → sector new.starting later s ≡ sector old.starting (later ++ old.past) s
  pub answers : (later : List Entry) → IsLawful (sectors_in new) new.depth later → (number : ℕ) → next_number old ≤ number
      → answer_to (over_both old (record new { past = later })) number ≡ answer_to (record new { past = later }) number
  pub answered : (later : List Entry) (number : ℕ) (a : Answer) → answer_to old number ≡ Some a → answer_to (over_both old (record new { past = later })) number ≡ Some a

-- the port recovers from the failure of a tag's command: READ LOG EXT by PIO
pub record IsRecovered (tag : ℕ) (old new : PortView) : Type 0 where
  pub appended : Appends old new (Recover tag)
  pub room : ReservesRoom old new
  pub registers_are : new.registers ≡ registers.recovered old.registers
  pub area_is : new.area ≡ put_at pio_place pio_bytes old.area
  pub windows_same : new.windows ≡ old.windows

-- a held command is issued again
pub record IsReissued (tag : ℕ) (old new : PortView) : Type 0 where
  pub appended : Appends old new (Reissue tag)
  pub room : UsesRoom 1 old new
  pub registers_are : new.registers ≡ registers.issued old.registers tag
  pub area_same : new.area ≡ old.area
  pub windows_same : new.windows ≡ old.windows

-- a command that is not queued is carried out in slot 0
pub record IsCarriedOut (command : Plain) (old new : PortView) : Type 0 where
  pub appended : Appends old new (Unqueued command)
  pub room : ReservesRoom old new
  pub registers_are : new.registers ≡ carried command old.registers
  pub area_is : new.area ≡ area_after command old.area
  pub windows_same : new.windows ≡ old.windows

-- IDENTIFY DEVICE: the device sends a PIO Setup FIS
abbrev pub IsIdentified : PortView → PortView → Type 0
IsIdentified = IsCarriedOut plain.Identify

-- FLUSH CACHE EXT: it sends a D2H Register FIS
abbrev pub IsFlushed : PortView → PortView → Type 0
IsFlushed = IsCarriedOut plain.Flush

-- sectors become zeros; registers, received FIS area, windows and what slot 0 sent stay
pub record IsZeroed (lba sectors : ℕ) (old new : PortView) : Type 0 where
  pub past_is : new.past ≡ Zero lba sectors ∷ old.past
  pub zeros : IsZeroedOver lba sectors old.image new.image
  pub room : ReservesRoom old new
  pub rest_same : new ≡ record old { image = new.image; past = new.past; room = new.room; held = new.held }
