use Rattle.std.proofs.Common.{subst}
use Rattle.sector_store.specs.Blank.{IsCleared}
use Rattle.sector_store.specs.Slots.{slot_at}
use Rattle.ncq_journal.specs.Image.{is_within}
use Rattle.sector_store.proofs.ZeroLemmas.{cleared_behind}
use Rattle.sector_store.proofs.pages.Pages.zero_run.Goals as goal

pub returns-clause-ok : goal.returns-clause-ok
returns-clause-ok g c =
    let sector = g.B.Base.sector in
    let below = sector c.args.self.now.base in
    let t0 = slot_at c.args.self.now.table in
    let t1 = slot_at c.prepare_run.new.self.table in
    let t2 = slot_at c.zero_prepared.new.self.table in
    cleared_behind below (is_within c.args.lba c.args.sectors) t0 t1 t2 c.prepare_run.ensures.same
    (subst (λ b. IsCleared (sector b) (is_within c.args.lba c.args.sectors) t1 t2) c.prepare_run.ensures.base c.zero_prepared.ensures.cleared)

pub returns-clause-kept : goal.returns-clause-kept
returns-clause-kept g c = (returns-clause-ok g c).kept

pub returns-clause-stay : goal.returns-clause-stay
returns-clause-stay g c = (returns-clause-ok g c).stay

pub zero_prepared-requires-clause-pages : goal.zero_prepared-requires-clause-pages
zero_prepared-requires-clause-pages g c = rw (c.prepare_run.ensures.base) c.in_ok-prepare_run.ensures.pages
