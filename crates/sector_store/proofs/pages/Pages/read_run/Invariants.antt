-- the sectors so far
use Rattle.std.proofs.Common.{◌≡◌, ℕ, ◌+◌, ◌<◌}
use Rattle.ncq_journal.specs.Image.{sector_at}
use Rattle.sector_store.specs.Slots.{slot_at}
use Rattle.sector_store.specs.Shown.{sector_now}
use Rattle.sector_store.proofs.pages.Pages.read_run.Given as goal

abbrev pub invariant-loop-k : goal.invariant-loop-k
invariant-loop-k g l = (i : ℕ) → i < l.k → sector_at l.out i ≡ sector_now (g.B.Base.sector l.self.base) (slot_at l.self.table) (l.lba + i)
