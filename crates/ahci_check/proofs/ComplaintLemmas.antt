-- What there is to say of a line: a complaint of the language comes exactly where the line isn't allowed.
use Rattle.std.proofs.Common.{◌≡◌, ℕ, ◌+◌, ◌-◌, Bool, true, false, cond, not, List, Option, Some, None, Result, Ok, Err, IfSome, length, option_map, refl, arith}
use Rattle.std.specs.Result.{result_ok}
use Rattle.ahci_script.specs.Lines.{reading}
use Rattle.ahci_script.specs.declared.breach.Breach.{Breach}
use Rattle.ahci_script.specs.declared.line.Line.{Line}
use Rattle.ahci_script.specs.declared.line.Line.TheVariants.{Skip, Run}
use Rattle.ahci_script.specs.declared.line.ScriptCommand.{ScriptCommand}
use Rattle.ahci_check.specs.Complaints.{IsColumn, complaint_at, complaint_in, ends_replay, is_in_place, is_language, misplaced, of_reading, stands, stands_at}
use Rattle.ahci_check.specs.Limits.{excess_in}
use Rattle.ahci_check.specs.declared.complaint.Complaint.{Complaint}
use Rattle.ahci_check.specs.declared.excess.Excess.{Excess}
use Rattle.ahci_check.specs.declared.place.Place.{Place}
use Rattle.ahci_check.specs.declared.rule.Rule.TheVariants.{Language, Port}

-- what there is to say of a command that is in its place, or isn't
abbrev of_placed : Place → ℕ → List ℕ → ScriptCommand → Bool → Option Complaint
of_placed place number line c b =
    cond b (option_map (λ (e : Excess). complaint_at number line e.left (Port e.limit)) (excess_in place line c))
    (Some (record { line = number; column = None; rule = Language (misplaced place) }))

-- a complaint of the language comes exactly where the line isn't allowed
pub complaint_agrees : (place : Place) (number : ℕ) (line : List ℕ) → ends_replay (complaint_in place number line) ≡ not (stands place line)
complaint_agrees place number line = by (reading line)
  where
    limits : (o : Option Excess) (f : Excess → Complaint) → ((e : Excess) → is_language (f e).rule ≡ false) → ends_replay (option_map f o) ≡ false
    limits None f is = refl
    limits (Some e) f is = is e

    placed : (c : ScriptCommand) (b : Bool) → ends_replay (of_placed place number line c b) ≡ not b
    placed c true = limits (excess_in place line c) _ (λ e. refl)
    placed c false = refl

    by : (r : Result Line Breach) → ends_replay (of_reading place number line r) ≡ not (stands_at place (result_ok r))
    by (Err breach) = refl
    by (Ok Skip) = refl
    by (Ok (Run c)) = placed c (is_in_place place c)

-- a column is one of the line's, or the one after it
pub complaint_column : (place : Place) (number : ℕ) (line : List ℕ) → IfSome (complaint_in place number line) (λ c. IfSome c.column (IsColumn line))
complaint_column place number line = by (reading line)
  where
    column : (left : ℕ) → IsColumn line (length line - left + 1)
    column left = (omega arith, omega arith)

    limits : (o : Option Excess) (f : Excess → Complaint) → ((e : Excess) → IfSome (f e).column (IsColumn line)) → IfSome (option_map f o) (λ c. IfSome c.column (IsColumn line))
    limits None f is = tt
    limits (Some e) f is = is e

    placed : (c : ScriptCommand) (b : Bool) → IfSome (of_placed place number line c b) (λ c. IfSome c.column (IsColumn line))
    placed c true = limits (excess_in place line c) _ (λ e. column e.left)
    placed c false = tt

    by : (r : Result Line Breach) → IfSome (of_reading place number line r) (λ c. IfSome c.column (IsColumn line))
    by (Err breach) = column breach.left
    by (Ok Skip) = tt
    by (Ok (Run c)) = placed c (is_in_place place c)
