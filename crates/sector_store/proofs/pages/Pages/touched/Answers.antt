use Rattle.std.proofs.Common.{◌/◌, false, ◌≡◌, ap, sym, ◌∙◌}
use Rattle.sector_store.specs.Slots.{slot_at}
use Rattle.sector_store.specs.Shown.{among, sector_now, sector_kept}
use Rattle.sector_store.proofs.ChangeLemmas.{untouched_same}
use Rattle.sector_store.proofs.ShownLemmas.{are_sectors_now, are_sectors_kept, same_sector}
use Rattle.sector_store.proofs.pages.Pages.touched.Goals as goal

pub returns : goal.returns
returns g c s apart =
    let below = g.B.Base.sector c.args.self.now.base in
    let slots = slot_at c.args.self.now.table in
    let listed : among c.args.self.now.touched.items (s / 8) ≡ false = ap (λ xs. among xs (s / 8)) (sym c.as_slice.ensures.value) ∙ apart in
    same_sector (sector_now below slots) (sector_kept below slots) c.args.self.now.sectors s
    (are_sectors_now below slots (g.met.B.Base.whole c.args.self.now.base) c.args.self.now.whole)
    (are_sectors_kept below slots (g.met.B.Base.whole c.args.self.now.base) c.args.self.now.whole)
    (untouched_same below slots c.args.self.now.touched.items c.args.self.now.touched_are s listed)
