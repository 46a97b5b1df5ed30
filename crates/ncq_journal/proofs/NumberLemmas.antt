-- Numbers and places.
use Rattle.std.proofs.Common.{◌≡◌, ℕ, ◌+◌, ◌-◌, ◌<◌, ap, refl, ◌∙◌, Some, None, arith}
use Rattle.std.specs.Option.{option_and_then}
use Rattle.ncq_journal.specs.History.{entry_at}
use Rattle.ncq_journal.specs.Laws.{NumberOfPlace, NoneBelowFirst, NoneFromEnd, NumbersDiffer}
use Rattle.ncq_journal.specs.Numbering.{place_of}
use Rattle.ncq_journal.proofs.EntryLemmas.{entry_at-past}

place_below : (first number : ℕ) → number < first → place_of first number ≡ None
place_below first number h = grind arith

pub place_from : (first number place : ℕ) → number ≡ first + place → place_of first number ≡ Some place
place_from first number place h = grind arith

pub number_of_place : NumberOfPlace
number_of_place first place past = ap (option_and_then (entry_at past)) (place_from first (first + place) place refl)

pub none_below_first : NoneBelowFirst
none_below_first first number past h = ap (option_and_then (entry_at past)) (place_below first number h)

pub none_from_end : NoneFromEnd
none_from_end first number past h =
    ap (option_and_then (entry_at past)) (place_from first number (number - first) (omega arith)) ∙ entry_at-past past (number - first) (omega arith)

pub numbers_differ : NumbersDiffer
numbers_differ first place other h = omega arith
