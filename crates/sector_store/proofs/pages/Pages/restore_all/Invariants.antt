-- what the pages so far have left as it was
use Rattle.std.proofs.Common.{◌≡◌, ℕ, List, vec_len}
use Rattle.sector_store.specs.Slots.{slot_at}
use Rattle.sector_store.specs.Shown.{sector_kept}
use Rattle.sector_store.proofs.pages.Pages.restore_all.Given as goal

abbrev pub invariant-loop-number : goal.invariant-loop-number
invariant-loop-number g l = record {
  kept : (below : ℕ → List ℕ) (s : ℕ) → sector_kept below (slot_at l.self.table) s ≡ sector_kept below (slot_at l.fn.self.table) s;
  base : l.self.base ≡ l.fn.self.base;
  sectors : l.self.sectors ≡ l.fn.self.sectors;
}

abbrev pub decreases-loop-number : goal.decreases-loop-number
decreases-loop-number g l = vec_len l.self.touched
