use Rattle.sector_store.proofs.ShownLemmas.{are_sectors_now, inside_joined}
use Rattle.sector_store.proofs.pages.PagesSectorStore.reserve.Goals as goal

pub reserve_run-requires : goal.reserve_run-requires
reserve_run-requires g c = inside_joined _ c.args.self.now.sectors _ (are_sectors_now _ _ (g.met.B.Base.whole c.args.self.now.base) c.args.self.now.whole) c.requires
