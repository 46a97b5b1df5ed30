-- the tags so far
use Rattle.std.proofs.Common.{◌≡◌, Bool}
use Rattle.word_bits.specs.Places.{bits}
use Rattle.ncq_journal.specs.declared.phase.Phase.{Phase}
use Rattle.ncq_journal.specs.History.{history_of}
use Rattle.ncq_journal.specs.Phase.{phase}
use Rattle.ncq_journal.proofs.SetLemmas.{among}
use Rattle.ncq_journal.proofs.tags.tags_in.Given as goal

abbrev pub invariant-loop-tag : goal.invariant-loop-tag
invariant-loop-tag g l =
    (q : Phase → Bool) → ((p : Phase) (b : Bool) → goal.F-post g l.is_one p b → b ≡ q p) → bits l.word ≡ among (λ t. q (phase (history_of l.events) t)) l.tag
