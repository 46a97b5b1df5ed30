use Rattle.std.proofs.Common.{arith}
use Rattle.sector_store.proofs.SectorLemmas.{sector_at-put_one}
use Rattle.sector_store.proofs.page.Page.write.Goals as goal

pub returns-clause-written : goal.returns-clause-written
returns-clause-written g c s =
    rw (c.deref_mut.ensures.value, c.copy_from_slice.ensures.after, ← c.self.view_is)
    (sector_at-put_one c.args.place _ c.self.inside.bytes.value c.args.sector.now (omega arith) c.requires.sector (omega arith) s)
