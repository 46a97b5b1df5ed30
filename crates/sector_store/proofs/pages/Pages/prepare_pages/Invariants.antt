-- the pages so far
use Rattle.std.proofs.Common.{◌≡◌}
use Rattle.sector_store.specs.Blank.{AreMarkable}
use Rattle.sector_store.specs.Slots.{slot_at, table_span}
use Rattle.sector_store.specs.Shown.{ShowSame}
use Rattle.sector_store.proofs.pages.Pages.prepare_pages.Given as goal

abbrev pub invariant-loop-number : goal.invariant-loop-number
invariant-loop-number g l = record {
  markable : AreMarkable (g.B.Base.sector l.fn.self.base) l.first l.number (slot_at l.self.table);
  same : ShowSame (g.B.Base.sector l.fn.self.base) (slot_at l.fn.self.table) (slot_at l.self.table);
  span : table_span l.self.table ≡ table_span l.fn.self.table;
  base : l.self.base ≡ l.fn.self.base;
  sectors : l.self.sectors ≡ l.fn.self.sectors;
}
