-- A check of a script and its replay agree: both end at the same line.
use Rattle.std.specs.Prelude.{◌≡◌, ℕ, ◌+◌, List, ◌∷◌, ◌++◌, Option, None, Some, is_none, length}
use Rattle.ahci_check.specs.Complaints.{complaint_in, ends_replay, first_wrong}
use Rattle.ahci_check.specs.Reports.{Report, judged_from}
use Rattle.ahci_check.specs.declared.judge.Judge.TheVariants.{OfScript}
use Rattle.ahci_check.specs.declared.place.Place.{Place}
use Rattle.ahci_check.specs.declared.place.Place.TheVariants.{BeforeDisk, AfterDisk}
use Rattle.ahci_port.specs.PortView.{PortView, sectors_in}
use Rattle.ahci_replay.specs.Transcript.{Adds, Telling, placed}

-- the place of a line that finds this port, or none: the port says how many sectors and slots there are
abbrev pub place_of : Option PortView → Place
place_of None = BeforeDisk
place_of (Some port) = AfterDisk (sectors_in port) port.depth

-- a line's complaint is one of the language exactly where replay has no such line on the port
abbrev pub StopAlike : Type 0
StopAlike = (port : Option PortView) (number : ℕ) (line : List ℕ) → ends_replay (complaint_in (place_of port) number line) ≡ is_none (placed port line)

-- after lines that replay has answered, the check's next line has the place that replay's has
abbrev pub StandAlike : Type 0
StandAlike = (telling : Telling) (port last : Option PortView) (lines : List (List ℕ)) (text : List ℕ) (report : Report) (number : ℕ)
    → Adds telling number port lines text last → report.judge ≡ OfScript (place_of port) → (judged_from number report lines).judge ≡ OfScript (place_of last)

-- replay has answered all lines: none has such a complaint
abbrev pub NoneEnds : Type 0
NoneEnds = (telling : Telling) (last : Option PortView) (lines : List (List ℕ)) (text : List ℕ)
    → Adds telling 1 None lines text last → first_wrong BeforeDisk 1 lines ≡ None

-- replay has answered lines, and ends at the next: it is the first line with such a complaint, whatever comes after it
abbrev pub FirstEnds : Type 0
FirstEnds = (telling : Telling) (last : Option PortView) (lines : List (List ℕ)) (text line : List ℕ) (more : List (List ℕ))
    → Adds telling 1 None lines text last → placed last line ≡ None → first_wrong BeforeDisk 1 (lines ++ line ∷ more) ≡ Some (length lines + 1)

pub record CheckAgrees : Type 0 where
  pub stop : StopAlike
  pub stand : StandAlike
  pub none : NoneEnds
  pub first : FirstEnds
