use Rattle.std.proofs.lemmas.Result.{on_ok_weaker, on_err_weaker}
use Rattle.std.proofs.Common.{◌/◌}
use Rattle.sector_store.proofs.ShownLemmas.{are_sectors_now, inside_joined, joined_same, length-joined_same}
use Rattle.sector_store.proofs.ZeroLemmas.{zeroed-joined}
use Rattle.sector_store.proofs.pages.PagesSectorStore.zero.Goals as goal

pub zero_run-requires : goal.zero_run-requires
zero_run-requires g c = inside_joined _ c.args.self.now.sectors _ (are_sectors_now _ _ (g.met.B.Base.whole c.args.self.now.base) c.args.self.now.whole) c.requires

pub returns-clause-ok : goal.returns-clause-ok
returns-clause-ok g c =
    let size = g.met.B.Base.whole c.args.self.now.base in
    let sized = are_sectors_now _ _ size c.args.self.now.whole in
    let fits = inside_joined _ c.args.self.now.sectors _ sized c.requires in
    rw (c.zero_run.ensures.base, c.zero_run.ensures.sectors)
    (on_ok_weaker c.zero_run.result (λ is. zeroed-joined _ _ c.args.self.now.sectors c.args.lba c.args.sectors sized (are_sectors_now _ _ size c.zero_run.new.self.whole) fits is.now)
    c.zero_run.ensures.ok)

pub returns-clause-err : goal.returns-clause-err
returns-clause-err g c =
    rw (c.zero_run.ensures.base, c.zero_run.ensures.sectors) (on_err_weaker c.zero_run.result (λ same. joined_same _ _ c.args.self.now.sectors same.now) c.zero_run.ensures.err)

pub returns-clause-len : goal.returns-clause-len
returns-clause-len g c =
    let size = g.met.B.Base.whole c.args.self.now.base in
    rw (c.zero_run.ensures.base, c.zero_run.ensures.sectors)
    (length-joined_same _ _ c.args.self.now.sectors (are_sectors_now _ _ size c.args.self.now.whole) (are_sectors_now _ _ size c.zero_run.new.self.whole))

pub returns-clause-held : goal.returns-clause-held
returns-clause-held g c = on_err_weaker c.zero_run.result (λ same s was. same.stay (s / 8) was) c.zero_run.ensures.err

pub returns-clause-starting : goal.returns-clause-starting
returns-clause-starting g c =
    rw (c.zero_run.ensures.base, c.zero_run.ensures.sectors) (joined_same _ _ c.args.self.now.sectors c.zero_run.ensures.kept)
