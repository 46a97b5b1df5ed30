-- the words so far
use Rattle.std.proofs.Common.{◌≡◌}
use Rattle.ncq_core.proofs.PageLemmas.{written_words}
use Rattle.ncq_core.proofs.disk.identify.identify_page.Given as goal

abbrev pub invariant-loop-number : goal.invariant-loop-number
invariant-loop-number l = l.page ≡ written_words l.sectors l.depth l.number
