-- the pages so far
use Rattle.std.proofs.Common.{◌≡◌, ℕ, ◌-◌, ◌*◌}
use Rattle.sector_store.specs.Blank.{IsCleared}
use Rattle.sector_store.specs.Slots.{slot_at}
use Rattle.sector_store.specs.Shown.{is_touched}
use Rattle.ncq_journal.specs.Image.{is_within}
use Rattle.sector_store.proofs.pages.Pages.zero_pages.Given as goal

abbrev pub invariant-loop-number : goal.invariant-loop-number
invariant-loop-number g l = record {
  cleared : IsCleared (g.B.Base.sector l.fn.self.base) (is_within (8 * l.first) (8 * (l.number - l.first))) (slot_at l.fn.self.table) (slot_at l.self.table);
  listed : (q : ℕ) → is_touched (slot_at l.self.table) q ≡ is_touched (slot_at l.fn.self.table) q;
  base : l.self.base ≡ l.fn.self.base;
  sectors : l.self.sectors ≡ l.fn.self.sectors;
}
