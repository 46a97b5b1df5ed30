use Rattle.std.proofs.Common.{◌+◌, ◌*◌, ◌<◌, ◌≤◌, ◌∙◌, arith, subst}
use Rattle.sector_store.specs.Blank.{AreMarkable}
use Rattle.sector_store.specs.Slots.{slot_at, table_span}
use Rattle.sector_store.specs.Shown.{ShowSame}
use Rattle.sector_store.proofs.ChangeLemmas.{shows_on}
use Rattle.sector_store.proofs.ZeroLemmas.{markable_more}
use Rattle.sector_store.proofs.pages.Pages.prepare_pages.Goals as goal

pub prepare_page-requires : goal.prepare_page-requires
prepare_page-requires g c =
    let room : c.args.self.now.sectors ≤ 8 * table_span c.args.self.now.table = c.args.self.now.room in
    let below : c.loop-number.number < table_span c.args.self.now.table = omega arith in
    rw c.loop-number.invariant.span below

pub loop-number-preserved : goal.loop-number-preserved
loop-number-preserved g c =
    let below = g.B.Base.sector c.args.self.now.base in
    let now = slot_at c.loop-number.self.table in
    let next = slot_at c.prepare_page.new.self.table in
    let number = c.loop-number.number in
    let same : ShowSame below now next = subst (λ b. ShowSame (g.B.Base.sector b) now next) c.loop-number.invariant.base c.prepare_page.ensures.same in
    record {
      markable =
          markable_more below c.args.first number now next c.loop-number.invariant.markable same
          (subst (λ b. AreMarkable (g.B.Base.sector b) number (number + 1) next) c.loop-number.invariant.base c.in_ok-prepare_page.ensures.ok);
      same = shows_on below (slot_at c.args.self.now.table) now next c.loop-number.invariant.same same;
      span = c.prepare_page.ensures.span ∙ c.loop-number.invariant.span;
      base = c.prepare_page.ensures.base ∙ c.loop-number.invariant.base;
      sectors = c.prepare_page.ensures.sectors ∙ c.loop-number.invariant.sectors;
    }
