use Rattle.sector_store.proofs.ShownLemmas.{are_sectors_kept, buffer_inside, read-joined}
use Rattle.sector_store.proofs.pages.PagesSectorStore.read_starting.Goals as goal

pub read_kept_run-requires-clause-inside : goal.read_kept_run-requires-clause-inside
read_kept_run-requires-clause-inside g c =
    buffer_inside _ c.args.self.now.sectors c.args.lba _ (are_sectors_kept _ _ (g.met.B.Base.whole c.args.self.now.base) c.args.self.now.whole) c.requires.whole c.requires.fits

pub returns : goal.returns
returns g c =
    read-joined _ c.args.self.now.sectors c.args.lba _ _ (are_sectors_kept _ _ (g.met.B.Base.whole c.args.self.now.base) c.args.self.now.whole) c.requires.whole c.requires.fits
    c.read_kept_run.auto.out c.read_kept_run.ensures
