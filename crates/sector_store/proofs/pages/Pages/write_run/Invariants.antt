-- the sectors so far
use Rattle.std.proofs.Common.{◌≡◌}
use Rattle.sector_store.specs.Slots.{slot_at}
use Rattle.sector_store.specs.Shown.{AreWrittenAt}
use Rattle.sector_store.proofs.pages.Pages.write_run.Given as goal

abbrev pub invariant-loop-k : goal.invariant-loop-k
invariant-loop-k g l = record {
  written : AreWrittenAt l.lba l.k l.bytes (slot_at l.fn.self.table) (slot_at l.self.table);
  base : l.self.base ≡ l.fn.self.base;
  sectors : l.self.sectors ≡ l.fn.self.sectors;
}
