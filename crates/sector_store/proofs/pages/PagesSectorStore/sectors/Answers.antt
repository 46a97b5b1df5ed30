use Rattle.sector_store.specs.Slots.{slot_at}
use Rattle.sector_store.specs.Shown.{sector_now}
use Rattle.sector_store.proofs.ShownLemmas.{length-joined, are_sectors_now}
use Rattle.sector_store.proofs.pages.PagesSectorStore.sectors.Goals as goal

pub returns : goal.returns
returns g c =
    let below = g.B.Base.sector c.args.self.now.base in
    let slots = slot_at c.args.self.now.table in
    length-joined (sector_now below slots) c.args.self.now.sectors (are_sectors_now below slots (g.met.B.Base.whole c.args.self.now.base) c.args.self.now.whole)
