use Rattle.std.specs.Option.{option_copied}
use Rattle.sector_store.proofs.ShownLemmas.{are_sectors_now, buffer_inside, if-read-joined}
use Rattle.sector_store.proofs.pages.PagesSectorStore.at_hand.Goals as goal

pub run_in_page-requires-clause-inside : goal.run_in_page-requires-clause-inside
run_in_page-requires-clause-inside g c =
    buffer_inside _ c.args.self.now.sectors c.args.lba c.args.len (are_sectors_now _ _ (g.met.B.Base.whole c.args.self.now.base) c.args.self.now.whole) c.requires.whole c.requires.fits

pub returns : goal.returns
returns g c =
    if-read-joined (option_copied c.run_in_page.result) _ c.args.self.now.sectors c.args.lba c.args.len
    (are_sectors_now _ _ (g.met.B.Base.whole c.args.self.now.base) c.args.self.now.whole) c.requires.whole c.requires.fits c.run_in_page.ensures.sectors c.run_in_page.ensures.len
