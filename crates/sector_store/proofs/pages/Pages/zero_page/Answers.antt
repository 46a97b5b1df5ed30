use Rattle.std.proofs.Common.{◌*◌, ◌≤◌, sym, ◌∙◌}
use Rattle.sector_store.specs.Slots.{slot_at, table_span}
use Rattle.sector_store.proofs.ChangeLemmas.{whole_zeroed, touched_changed}
use Rattle.sector_store.proofs.ZeroLemmas.{cleared_page}
use Rattle.sector_store.proofs.pages.Pages.zero_page.Goals as goal

pub invariant_of-self : goal.invariant_of-self
invariant_of-self g c =
    let old = slot_at c.args.self.now.table in
    let new = slot_at c.zero.new.table in
    let room : c.args.self.now.sectors ≤ 8 * table_span c.zero.new.table = rw c.zero.ensures.span c.args.self.now.room in
    record {
      most = c.args.self.now.most;
      room = room;
      whole = whole_zeroed c.args.number old new c.zero.ensures.others c.zero.ensures.layers c.args.self.now.whole;
      touched_are =
          touched_changed c.args.number c.args.self.now.touched.items old new c.zero.ensures.others
          (c.args.self.now.touched_are.listed c.args.number (sym c.is_touched.ensures ∙ c.if-is_touched.true)) c.args.self.now.touched_are;
    }

pub returns-then-is_touched-clause-cleared : goal.returns-then-is_touched-clause-cleared
returns-then-is_touched-clause-cleared g c =
    cleared_page (g.B.Base.sector c.args.self.now.base) c.args.number (slot_at c.args.self.now.table) (slot_at c.zero.new.table) c.zero.ensures.others c.zero.ensures.layers
