-- What a complaint of the port says: every port refuses it.
use Rattle.std.specs.Prelude.{◌≡◌, ℕ, false, List, Option, None, Some}
use Rattle.ahci_port.specs.Headline.{Headline}
use Rattle.ahci_port.specs.PortView.{PortView}
use Rattle.ahci_replay.specs.Commands.{Runs}
use Rattle.ahci_script.specs.Lines.{line_of}
use Rattle.ahci_script.specs.Said.{Said, Refused}
use Rattle.ahci_script.specs.declared.line.Line.TheVariants.{Run}
use Rattle.ahci_script.specs.declared.line.ScriptCommand.{ScriptCommand}
use Rattle.ahci_check.specs.Agreement.{place_of}
use Rattle.ahci_check.specs.Complaints.{complaint_in, is_language}
use Rattle.ahci_check.specs.declared.complaint.Complaint.{Complaint}

-- what holds of every port between its calls (`Port::keeps_its_promise`)
abbrev pub IsPort : Option PortView → Type 0
IsPort None = Unit {0}
IsPort (Some port) = Headline port

-- the answer is a refusal
abbrev pub IsRefusal : Said → Type 0
IsRefusal (Refused refusal) = Unit {0}
IsRefusal said = ⊥

-- a line has a complaint of the port: whichever port of that place it finds, or none before the disk, the answer of its command
-- is a refusal, and the port stays as it is
abbrev pub PortRefuses : Type 0
PortRefuses = (port new : Option PortView) (number : ℕ) (line : List ℕ) (complaint : Complaint) (c : ScriptCommand) (said : Said)
    → IsPort port → complaint_in (place_of port) number line ≡ Some complaint → is_language complaint.rule ≡ false → line_of line ≡ Some (Run c)
    → Runs port c new said → (new ≡ port) × IsRefusal said
