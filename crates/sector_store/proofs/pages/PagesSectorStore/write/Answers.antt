use Rattle.sector_store.proofs.ShownLemmas.{are_sectors_now, buffer_inside, length-joined_same, written-joined}
use Rattle.sector_store.proofs.pages.PagesSectorStore.write.Goals as goal

pub write_run-requires-clause-inside : goal.write_run-requires-clause-inside
write_run-requires-clause-inside g c =
    buffer_inside _ c.args.self.now.sectors c.args.lba _ (are_sectors_now _ _ (g.met.B.Base.whole c.args.self.now.base) c.args.self.now.whole) c.requires.whole c.requires.fits

pub returns-clause-written : goal.returns-clause-written
returns-clause-written g c s =
    let size = g.met.B.Base.whole c.args.self.now.base in
    rw (c.write_run.ensures.base, c.write_run.ensures.sectors)
    (written-joined _ _ c.args.self.now.sectors c.args.lba c.args.bytes.now (are_sectors_now _ _ size c.args.self.now.whole) (are_sectors_now _ _ size c.write_run.new.self.whole)
    c.requires.whole c.requires.fits (c.write_run.ensures.written.now _) s)

pub returns-clause-len : goal.returns-clause-len
returns-clause-len g c =
    let size = g.met.B.Base.whole c.args.self.now.base in
    rw (c.write_run.ensures.base, c.write_run.ensures.sectors)
    (length-joined_same _ _ c.args.self.now.sectors (are_sectors_now _ _ size c.args.self.now.whole) (are_sectors_now _ _ size c.write_run.new.self.whole))
