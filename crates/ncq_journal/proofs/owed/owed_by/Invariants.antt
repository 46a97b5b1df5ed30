-- what the tags so far can need, at most four entries each
use Rattle.std.proofs.Common.{◌≡◌, ◌*◌, ◌≤◌}
use Rattle.ncq_journal.specs.History.{history_of}
use Rattle.ncq_journal.specs.Owed.{owed_in}
use Rattle.ncq_journal.specs.Phase.{phase}
use Rattle.ncq_journal.proofs.TagLemmas.{sum_tags}
use Rattle.ncq_journal.proofs.owed.owed_by.Given as goal

abbrev pub invariant-loop-tag : goal.invariant-loop-tag
invariant-loop-tag g l =
    (l.owed ≡ sum_tags (λ tag. owed_in (phase (history_of l.events) tag)) l.tag) × (l.owed ≤ 4 * l.tag)
