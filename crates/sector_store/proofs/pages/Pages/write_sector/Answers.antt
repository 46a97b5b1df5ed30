use Rattle.sector_store.specs.Slots.{slot_at}
use Rattle.sector_store.proofs.ChangeLemmas.{written_at}
use Rattle.sector_store.proofs.pages.Pages.write_sector.Goals as goal

pub returns-clause-written : goal.returns-clause-written
returns-clause-written g c =
    written_at c.args.lba c.args.sector.now (slot_at c.args.self.now.table) (slot_at c.write.new.table) c.write.ensures.others c.write.ensures.layers
