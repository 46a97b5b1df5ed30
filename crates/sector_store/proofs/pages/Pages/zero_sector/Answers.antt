use Rattle.sector_store.specs.Slots.{slot_at}
use Rattle.ncq_journal.specs.Image.{zero_sector}
use Rattle.sector_store.proofs.ZeroLemmas.{cleared_sector}
use Rattle.sector_store.proofs.pages.Pages.zero_sector.Goals as goal

pub returns-then-is_held-clause-cleared : goal.returns-then-is_held-clause-cleared
unfolding zero_sector
returns-then-is_held-clause-cleared g c =
    cleared_sector (g.B.Base.sector c.args.self.now.base) c.args.lba c.as_slice.result.now (slot_at c.args.self.now.table) (slot_at c.write_sector.new.self.table) c.as_slice.ensures c.write_sector.ensures.written
