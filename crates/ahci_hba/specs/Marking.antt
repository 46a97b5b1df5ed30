-- What the marks of WRITE UNCORRECTABLE EXT do to a command that moves sectors, and what it does to them (ACS-3, "WRITE UNCORRECTABLE EXT"): a read fails at the
-- first marked sector, and a write leaves its sectors without marks.
use Rattle.std.specs.Prelude.{ℕ, ◌-◌, Bool, min, List, Option, None, if◌then◌else◌}
use Rattle.hba_command.specs.Addressing.{reached}
use Rattle.hba_command.specs.Uncorrectable.{first_marked, without}
use Rattle.hba_command.specs.declared.action.Action.{Action}
use Rattle.hba_command.specs.declared.action.Action.TheVariants.{Queue, Sectors}
use Rattle.hba_command.specs.declared.addressing.Addressing.{Addressing}
use Rattle.hba_command.specs.declared.addressing.Addressing.TheVariants.{Bits48}
use Rattle.ahci_port.specs.PortView.{PortView, sectors_in}
use Rattle.ahci_hba.specs.HbaView.{HbaView}

-- the first marked one of the sectors that the disk has and the command reaches, of so many from an LBA on
abbrev pub marked_on : PortView → List ℕ → Addressing → (lba sectors : ℕ) → Option ℕ
marked_on port marks addressing lba sectors = first_marked lba (min sectors (reached addressing (sectors_in port) - lba)) marks

-- a write finds none
abbrev pub found_by : Bool → Option ℕ → Option ℕ
found_by write found = if write then None else found

-- the one at which a command fails
abbrev pub marked_for : HbaView → Action → Option ℕ
marked_for h (Queue q) = found_by q.write (marked_on h.port h.marks Bits48 q.lba q.sectors)
marked_for h (Sectors write span p) = found_by write (marked_on h.port h.marks span.addressing span.lba span.sectors)
marked_for h other = None

-- the marks that a command leaves
abbrev pub marks_behind : Bool → (lba sectors : ℕ) → List ℕ → List ℕ
marks_behind write lba sectors marks = if write then without lba sectors marks else marks

abbrev pub marks_after : Action → List ℕ → List ℕ
marks_after (Queue q) marks = marks_behind q.write q.lba q.sectors marks
marks_after (Sectors write span p) marks = marks_behind write span.lba span.sectors marks
marks_after other marks = marks

abbrev pub marking : HbaView → List ℕ → HbaView
marking h marks = record h { marks = marks }
