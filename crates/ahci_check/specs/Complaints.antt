-- What there is to say of a line, and which disk is before the next.
use Rattle.std.specs.Prelude.{ℕ, ◌+◌, ◌-◌, ◌≤◌, Bool, true, false, List, [], ◌∷◌, Option, Some, None, Result, Ok, Err, option_map, is_none, length, if◌then◌else◌}
use Rattle.ahci_script.specs.Lines.{line_of, reading}
use Rattle.ahci_script.specs.Words.{after_first}
use Rattle.ahci_script.specs.declared.breach.Breach.{Breach}
use Rattle.ahci_script.specs.declared.fault.Fault.{Fault}
use Rattle.ahci_script.specs.declared.fault.Fault.TheVariants as fault
use Rattle.ahci_script.specs.declared.line.Line.{Line}
use Rattle.ahci_script.specs.declared.line.Line.TheVariants.{Skip, Run}
use Rattle.ahci_script.specs.declared.line.ScriptCommand.{ScriptCommand}
use Rattle.ahci_script.specs.declared.line.ScriptCommand.TheVariants as command
use Rattle.ahci_check.specs.Limits.{disk_excess, excess_in}
use Rattle.ahci_check.specs.declared.complaint.Complaint.{Complaint}
use Rattle.ahci_check.specs.declared.excess.Excess.{Excess}
use Rattle.ahci_check.specs.declared.place.Place.{Place}
use Rattle.ahci_check.specs.declared.place.Place.TheVariants.{BeforeDisk, AfterDisk}
use Rattle.ahci_check.specs.declared.rule.Rule.{Rule}
use Rattle.ahci_check.specs.declared.rule.Rule.TheVariants.{Language, Port}

-- before the disk is the disk alone, and after it every other command
abbrev pub is_in_place : Place → ScriptCommand → Bool
is_in_place BeforeDisk (command.Disk sectors depth first) = true
is_in_place BeforeDisk c = false
is_in_place (AfterDisk s d) (command.Disk sectors depth first) = false
is_in_place (AfterDisk s d) c = true

-- the rule that a command breaks which isn't in place
abbrev pub misplaced : Place → Fault
misplaced BeforeDisk = fault.BeforeDisk
misplaced (AfterDisk sectors depth) = fault.SecondDisk

-- the line is one of the language, and a command of it is in place
abbrev pub stands_at : Place → Option Line → Bool
stands_at place None = false
stands_at place (Some Skip) = true
stands_at place (Some (Run c)) = is_in_place place c

abbrev pub stands : Place → List ℕ → Bool
stands place line = stands_at place (line_of line)

-- the column of an end of a line
abbrev pub column_of : List ℕ → ℕ → ℕ
column_of line left = length line - left + 1

-- a complaint at an end of a line
abbrev pub complaint_at : ℕ → List ℕ → ℕ → Rule → Complaint
complaint_at number line left rule = record { line = number; column = Some (column_of line left); rule = rule }

-- and one where a limit is passed
abbrev pub of_excess : ℕ → List ℕ → Option Excess → Option Complaint
of_excess number line excess = option_map (λ (e : Excess). complaint_at number line e.left (Port e.limit)) excess

-- what there is to say of a command
abbrev pub of_command : Place → ℕ → List ℕ → ScriptCommand → Option Complaint
of_command place number line c =
    if is_in_place place c then of_excess number line (excess_in place line c)
    else Some (record { line = number; column = None; rule = Language (misplaced place) })

-- what there is to say of a line that was read: the rule of the language that it breaks first; else that it is out of place;
-- else the limit that it passes
abbrev pub of_reading : Place → ℕ → List ℕ → Result Line Breach → Option Complaint
of_reading place number line (Err breach) = Some (complaint_at number line breach.left (Language breach.fault))
of_reading place number line (Ok Skip) = None
of_reading place number line (Ok (Run c)) = of_command place number line c

-- what there is to say of a line of the given number
abbrev pub complaint_in : Place → ℕ → List ℕ → Option Complaint
complaint_in place number line = of_reading place number line (reading line)

-- the complaint is of the language, or of the order of lines
abbrev pub is_language : Rule → Bool
is_language (Language fault) = true
is_language (Port limit) = false

abbrev pub ends_replay : Option Complaint → Bool
ends_replay None = false
ends_replay (Some c) = is_language c.rule

-- a column is one of the line's bytes, or the one after them
abbrev pub IsColumn : List ℕ → ℕ → Type 0
IsColumn line column = (1 ≤ column) × (column ≤ length line + 1)

-- the place after a line that was read: the first disk whose numbers pass no limit opens it
abbrev pub place_by : Place → List ℕ → Result Line Breach → Place
place_by BeforeDisk line (Ok (Run (command.Disk sectors depth first))) =
    if is_none (disk_excess (after_first line) sectors depth first) then AfterDisk sectors depth else BeforeDisk
place_by place line read = place

abbrev pub place_after : Place → List ℕ → Place
place_after place line = place_by place line (reading line)

-- the number of the first line with a complaint that ends replay, the first of these lines having the given number
abbrev pub first_wrong : Place → ℕ → List (List ℕ) → Option ℕ
first_wrong place number [] = None
first_wrong place number (line ∷ more) =
    if ends_replay (complaint_in place number line) then Some number else first_wrong (place_after place line) (number + 1) more
