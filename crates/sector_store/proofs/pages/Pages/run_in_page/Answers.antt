use Rattle.std.proofs.Common.{sym, arith}
use Rattle.sector_store.specs.Slots.{slot_at}
use Rattle.sector_store.proofs.ShownLemmas.{page_run}
use Rattle.sector_store.proofs.pages.Pages.run_in_page.Goals as goal

pub returns-in-Some-clause-sectors : goal.returns-in-Some-clause-sectors
returns-in-Some-clause-sectors g c =
    page_run (g.B.Base.sector c.args.self.now.base) (slot_at c.args.self.now.table) c.in-Some.page.now c.run_at.result.now c.args.lba c.args.len (sym c.in-Some.ensures.bytes) c.in-Some.ensures.len (omega arith) c.run_at.ensures
