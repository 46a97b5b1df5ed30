-- the sectors so far
use Rattle.std.proofs.Common.{◌≡◌, ℕ, ◌+◌, ◌*◌, ◌<◌}
use Rattle.ncq_journal.specs.Image.{sector_at}
use Rattle.sector_store.proofs.pages.reserve.read_page.Given as goal

abbrev pub invariant-loop-place : goal.invariant-loop-place
invariant-loop-place g l = (i : ℕ) → i < l.place → sector_at l.out i ≡ g.B.Base.sector l.base (8 * l.number + i)
