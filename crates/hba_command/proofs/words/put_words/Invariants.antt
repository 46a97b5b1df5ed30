-- the words so far
use Rattle.std.proofs.Common.{◌≡◌}
use Rattle.hba_command.specs.Words.{with_words}
use Rattle.hba_command.proofs.words.put_words.Given as goal

abbrev pub invariant-loop-index : goal.invariant-loop-index
invariant-loop-index l = l.page ≡ with_words l.first l.value l.index l.initial.page
