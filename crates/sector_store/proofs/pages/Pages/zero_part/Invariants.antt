-- the sectors so far
use Rattle.std.proofs.Common.{◌≡◌}
use Rattle.sector_store.specs.Blank.{IsCleared}
use Rattle.sector_store.specs.Slots.{slot_at}
use Rattle.ncq_journal.specs.Image.{is_within}
use Rattle.sector_store.proofs.pages.Pages.zero_part.Given as goal

abbrev pub invariant-loop-k : goal.invariant-loop-k
invariant-loop-k g l = record {
  cleared : IsCleared (g.B.Base.sector l.fn.self.base) (is_within l.lba l.k) (slot_at l.fn.self.table) (slot_at l.self.table);
  base : l.self.base ≡ l.fn.self.base;
  sectors : l.self.sectors ≡ l.fn.self.sectors;
}
