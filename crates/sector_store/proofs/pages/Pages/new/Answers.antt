use Rattle.sector_store.specs.Slots.{slot_at}
use Rattle.sector_store.specs.Shown.{sector_now, sector_kept}
use Rattle.sector_store.proofs.ShownLemmas.{joined_same}
use Rattle.sector_store.proofs.ChangeLemmas.{now_empty, kept_empty}
use Rattle.sector_store.proofs.pages.Pages.new.Goals as goal

pub returns-clause-image : goal.returns-clause-image
returns-clause-image g c =
    let below = g.B.Base.sector c.args.base in
    let slots = slot_at c.in_ok-table.table in
    joined_same (sector_now below slots) below c.args.sectors (now_empty below slots c.in_ok-table.ensures.empty)

pub returns-clause-starting : goal.returns-clause-starting
returns-clause-starting g c =
    let below = g.B.Base.sector c.args.base in
    let slots = slot_at c.in_ok-table.table in
    joined_same (sector_kept below slots) below c.args.sectors (kept_empty below slots c.in_ok-table.ensures.empty)
