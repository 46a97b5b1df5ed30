use Rattle.std.proofs.Common.{ℕ, ◌*◌, ◌≤◌, List, length, ap, sym, ◌∙◌, subst}
use Rattle.sector_store.specs.Slots.{slot_at, table_span}
use Rattle.sector_store.specs.Shown.{IsPageOf, sector_now}
use Rattle.sector_store.proofs.ChangeLemmas.{whole_put, touched_changed, shows_on, shows_put}
use Rattle.sector_store.proofs.pages.Pages.reserve_page.Goals as goal

pub invariant_of-self : goal.invariant_of-self
invariant_of-self g c =
    let mid = slot_at c.touch.new.self.table in
    let new = slot_at c.put.new.table in
    let touched = c.touch.new.self.touched.items in
    let room : c.touch.new.self.sectors ≤ 8 * table_span c.put.new.table = rw c.put.ensures.span c.touch.new.self.room in
    record {
      most = c.touch.new.self.most;
      room = room;
      whole = whole_put c.args.number c.in_ok-page.page mid new c.put.ensures.others c.put.ensures.layers (ap length c.in_ok-page.ensures ∙ c.shown-bytes.ensures.len) c.touch.new.self.whole;
      touched_are = touched_changed c.args.number touched mid new c.put.ensures.others (c.touch.new.self.touched_are.listed c.args.number c.in_ok-touch.ensures.ok) c.touch.new.self.touched_are;
    }

pub returns-clause-same : goal.returns-clause-same
returns-clause-same g c =
    let below = g.B.Base.sector c.args.self.now.base in
    let old = slot_at c.args.self.now.table in
    let mid = slot_at c.touch.new.self.table in
    let new = slot_at c.put.new.table in
    let number = c.args.number in
    shows_on below old mid new c.touch.ensures.same
    (shows_put below number c.in_ok-page.page mid new c.put.ensures.others
    c.put.ensures.layers
    (subst (λ (p : List ℕ). IsPageOf (sector_now below mid) number p) (sym c.in_ok-page.ensures)
    (subst (λ b. IsPageOf (sector_now (g.B.Base.sector b) mid) number c.shown-bytes.result) c.touch.ensures.base c.shown-bytes.ensures.page)))
