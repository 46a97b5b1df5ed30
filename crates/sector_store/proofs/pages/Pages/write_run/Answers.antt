use Rattle.std.proofs.Common.{◌∙◌, arith}
use Rattle.sector_store.specs.Slots.{slot_at}
use Rattle.sector_store.proofs.ShownLemmas.{written_more, part_is_sector}
use Rattle.sector_store.proofs.pages.Pages.write_run.Goals as goal

pub loop-k-preserved : goal.loop-k-preserved
loop-k-preserved g c = record {
  written =
      written_more c.args.lba c.loop-k.k c.args.bytes.now _ (slot_at c.args.self.now.table) (slot_at c.loop-k.self.table) (slot_at c.write_sector.new.self.table)
      (part_is_sector c.args.bytes.now c.loop-k.k _ (omega arith)) c.loop-k.invariant.written c.write_sector.ensures.written;
  base = c.write_sector.ensures.base ∙ c.loop-k.invariant.base;
  sectors = c.write_sector.ensures.sectors ∙ c.loop-k.invariant.sectors;
}
