-- the words so far
use Rattle.std.proofs.Common.{◌≡◌}
use Rattle.hba_command.specs.Words.{with_text}
use Rattle.hba_command.proofs.words.put_text.Given as goal

abbrev pub invariant-loop-index : goal.invariant-loop-index
invariant-loop-index l = l.page ≡ with_text l.first l.text l.index l.initial.page
