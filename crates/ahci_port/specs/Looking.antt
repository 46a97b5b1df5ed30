-- What a driver asks a port of: which tags wait for what, and how much a tag's request reads.
use Rattle.std.specs.Prelude.{◌≡◌, ℕ, ◌*◌, ◌≤◌, Bool, if◌then◌else◌, List, length, Option, None, Some}
use Rattle.ncq_core.specs.DiskState.{most_depth, most_sectors}
use Rattle.ncq_journal.specs.Entry.{Entry}
use Rattle.ncq_journal.specs.Phase.{phase}
use Rattle.ncq_journal.specs.Request.{Request, request}
use Rattle.ncq_journal.specs.Work.{Work, Read, Write}
use Rattle.word_bits.specs.Places.{places}
use Rattle.ahci_port.specs.Faults.{is_issued, is_accepted, is_held}
use Rattle.ahci_port.specs.PortView.{PortView, is_free, sectors_in}

-- the tags whose command waits for the device
abbrev pub issued_tags : List Entry → List Bool
issued_tags past = places (λ tag. is_issued (phase past tag))

-- the tags whose command the device has taken; an error doesn't empty this set
abbrev pub accepted_tags : List Entry → List Bool
accepted_tags past = places (λ tag. is_accepted (phase past tag))

-- the tags whose command another's error has ended
abbrev pub held_tags : List Entry → List Bool
held_tags past = places (λ tag. is_held (phase past tag))

-- the bytes that a command reads
abbrev pub read_of : Work → Option ℕ
read_of (Read lba sectors) = Some (512 * sectors)
read_of (Write lba bytes) = None

-- the bytes that a request reads, where there is one
abbrev pub read_by : Option Request → Option ℕ
read_by None = None
read_by (Some r) = read_of r.work

-- the bytes that the request of a tag's slot reads
abbrev pub read_length : List Entry → ℕ → Option ℕ
read_length past tag = if is_free (phase past tag) then None else read_by (request past tag)

-- what every port has: 1 to 32 slots, as many windows, registers of that depth, and whole sectors, not too many, of which
-- none comes or goes
pub record HasShape (port : PortView) : Type 0 where
  pub some : 1 ≤ port.depth
  pub most : port.depth ≤ most_depth
  pub registers : port.registers.depth ≡ port.depth
  pub windows : length port.windows ≡ port.depth
  pub whole : length port.starting ≡ 512 * sectors_in port
  pub least : 1 ≤ sectors_in port
  pub few : sectors_in port ≤ most_sectors
  pub size : length port.image ≡ length port.starting
