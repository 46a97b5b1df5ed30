-- the pages so far
use Rattle.std.proofs.Common.{◌≡◌, ℕ, ◌/◌, ◌<◌, ◌≤◌, true}
use Rattle.sector_store.specs.Slots.{slot_at, table_span}
use Rattle.sector_store.specs.Shown.{ShowSame, is_held}
use Rattle.sector_store.proofs.pages.Pages.reserve_run.Given as goal

abbrev pub invariant-loop-number : goal.invariant-loop-number
invariant-loop-number g l = record {
  pages : (q : ℕ) → l.lba / 8 ≤ q → q < l.number → is_held (slot_at l.self.table) q ≡ true;
  same : ShowSame (g.B.Base.sector l.fn.self.base) (slot_at l.fn.self.table) (slot_at l.self.table);
  span : table_span l.self.table ≡ table_span l.fn.self.table;
  base : l.self.base ≡ l.fn.self.base;
  sectors : l.self.sectors ≡ l.fn.self.sectors;
}
