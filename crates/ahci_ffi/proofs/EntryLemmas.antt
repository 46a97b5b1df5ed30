-- An entry of a lawful journal issues a command that can be issued.
use Rattle.std.proofs.Common.{◌≡◌, ℕ, Bool, true, false, cond, nat_lt, ◌-◌, List, None, Some}
use Rattle.std.specs.Option.{option_and_then}
use Rattle.ncq_journal.specs.Entry.{Entry}
use Rattle.ncq_journal.specs.History.{entry_at}
use Rattle.ncq_journal.specs.Lawful.{IsLawful, IsProperEntry}
use Rattle.ncq_journal.specs.Numbering.{entry_numbered}
use Rattle.ncq_journal.proofs.AnswerLemmas.{proper_entry}
use Rattle.ncq_journal.proofs.LawfulLemmas.{lawful_proper}

pub entry_is_proper : (s d first number : ℕ) (past : List Entry) (entry : Entry) → IsLawful s d past → entry_numbered first past number ≡ Some entry → IsProperEntry entry
entry_is_proper s d first number past entry h is = by (nat_lt number first) is
  where
    by : (b : Bool) → option_and_then (entry_at past) (cond b None (Some (number - first))) ≡ Some entry → IsProperEntry entry
    by true e = absurd (cc)
    by false e = proper_entry past (number - first) entry (lawful_proper s d past h) e
