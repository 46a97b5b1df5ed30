-- The newest entry that came after a mark.
use Rattle.std.proofs.Common.{◌≡◌, ◌∙◌, ℕ, ◌+◌, ◌-◌, ◌≤◌, Bool, true, false, cond, List, [], ◌∷◌, Option, None, Some, length, refl, ap, arith}
use Rattle.std.specs.Prelude.{nat_le, option_map}
use Rattle.std.specs.Option.{option_and_then}
use Rattle.std.proofs.lemmas.Bool.Decides.{nat_tests}
use Rattle.ahci_port.specs.Faults.{is_bad_list}
use Rattle.ahci_port.specs.PortView.{PortView}
use Rattle.ahci_port.specs.Steps.{completes}
use Rattle.ahci_port.specs.declared.fault.StepFault.TheVariants as step_fault
use Rattle.ahci_port.specs.Refusals.{of_step}
use Rattle.ncq_journal.proofs.EntryLemmas.{entry_at-newest}
use Rattle.ncq_journal.proofs.NumberLemmas.{place_from}
use Rattle.ncq_journal.specs.Entry.{Entry, Complete}
use Rattle.ncq_journal.specs.History.{entry_at}
use Rattle.ncq_journal.specs.Numbering.{entry_numbered}
use Rattle.ncq_journal.specs.EventKind.{kind_of}
use Rattle.ahci_trace.specs.Entries.{newest}
use Rattle.ahci_trace.specs.Mark.{mark_of}

newest_of : (end first : ℕ) (words : List (Option ℕ)) (entry : Entry) (more : List Entry) → end ≤ first + length more
    → newest (record { end = end; words = words }) first (entry ∷ more) ≡ Some (kind_of entry)
newest_of end first words entry more below =
    ap (λ b. cond b None (option_map kind_of (entry_numbered first (entry ∷ more) (first + length (entry ∷ more) - 1)))) is_more
    ∙ ap (λ n. option_map kind_of (entry_numbered first (entry ∷ more) n)) (let e : first + length (entry ∷ more) - 1 ≡ first + length more = omega arith in e)
    ∙ ap (λ p. option_map kind_of (option_and_then (entry_at (entry ∷ more)) p)) (place_from first (first + length more) (length more) refl)
    ∙ ap (option_map kind_of) (entry_at-newest more entry)
  where
    is_more : nat_le (first + length (entry ∷ more)) end ≡ false
    is_more = grind (arith, nat_tests)

-- what is received is reported by the entry that was appended last
pub told_by : (old new : PortView) (entry : Entry) (more : List Entry) → new.first ≡ old.first → new.past ≡ entry ∷ more → length old.past ≤ length more
    → newest (mark_of (Some old)) new.first new.past ≡ Some (kind_of entry)
told_by old new entry more first past grown =
    ap (λ f. newest (mark_of (Some old)) f new.past) first ∙ ap (newest (mark_of (Some old)) old.first) past
    ∙ newest_of (old.first + length old.past) old.first (mark_of (Some old)).words entry more (omega (arith, grown))

pub unrefused_serve : (h b q : Bool) → option_map of_step (cond h (Some step_fault.Halted) (cond b (cond q (Some step_fault.BadTags) None) (Some step_fault.NotAccepted))) ≡ None → q ≡ false
unrefused_serve true b q none = cc
unrefused_serve false false q none = cc
unrefused_serve false true true none = cc
unrefused_serve false true false none = refl

-- the entry that a service appends last
abbrev pub Last : List Entry → List Entry → Type 0
Last past all = (tag : ℕ) × (more : List Entry) × (all ≡ Complete tag ∷ more) × (length past ≤ length more)

last_of : (tags : List ℕ) (past : List Entry) (tag : ℕ) → Last past (completes (Complete tag ∷ past) tags)
last_of [] past tag = (tag, past, refl, omega arith)
last_of (next ∷ tags) past tag =
    let more = last_of tags (Complete tag ∷ past) next in
    (more.0, more.1, more.2, omega (arith, more.3))

pub last_completed : (past : List Entry) (tags : List ℕ) → is_bad_list tags ≡ false → Last past (completes past tags)
last_completed past [] good = cc
last_completed past (tag ∷ tags) good = last_of tags past tag

-- no entry came after the mark
pub nothing_new : (old : PortView) (first : ℕ) (past : List Entry) → first + length past ≤ old.first + length old.past → newest (mark_of (Some old)) first past ≡ None
nothing_new old first past before =
    ap (λ b. cond b None (option_map kind_of (entry_numbered first past (first + length past - 1)))) is_before
  where
    is_before : nat_le (first + length past) (old.first + length old.past) ≡ true
    is_before = grind (arith, nat_tests)
