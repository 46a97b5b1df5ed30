use Rattle.std.proofs.Common.{◌≡◌, ◌+◌, ◌-◌, ◌*◌, sym, ◌∙◌, arith, refl, subst}
use Rattle.sector_store.specs.Blank.{AreMarkable, IsCleared}
use Rattle.sector_store.specs.Slots.{slot_at}
use Rattle.ncq_journal.specs.Image.{is_within}
use Rattle.sector_store.proofs.ZeroLemmas.{cleared_none, cleared_more, markable_one}
use Rattle.sector_store.proofs.pages.Pages.zero_pages.Goals as goal

pub loop-number-init : goal.loop-number-init
loop-number-init g c =
    let none : 8 * (c.args.first - c.args.first) ≡ 0 = omega arith in
    record {
      cleared = cleared_none (g.B.Base.sector c.args.self.now.base) (8 * c.args.first) (8 * (c.args.first - c.args.first)) (slot_at c.args.self.now.table) none;
      listed = λ q. refl;
      base = refl;
      sectors = refl;
    }

pub zero_page-requires : goal.zero_page-requires
zero_page-requires g c =
    let old = slot_at c.args.self.now.table in
    let now = slot_at c.loop-number.self.table in
    subst (λ b. AreMarkable (g.B.Base.sector b) c.loop-number.number (c.loop-number.number + 1) now) (sym c.loop-number.invariant.base)
    (markable_one (g.B.Base.sector c.args.self.now.base) (is_within (8 * c.args.first) (8 * (c.loop-number.number - c.args.first))) c.args.first c.args.end c.loop-number.number old now (omega arith) (omega arith)
    c.requires.markable c.loop-number.invariant.cleared c.loop-number.invariant.listed)

pub loop-number-preserved : goal.loop-number-preserved
loop-number-preserved g c =
    let below = g.B.Base.sector c.args.self.now.base in
    let old = slot_at c.args.self.now.table in
    let now = slot_at c.loop-number.self.table in
    let next = slot_at c.zero_page.new.self.table in
    let number = c.loop-number.number in
    record {
      cleared =
          cleared_more below (8 * c.args.first) (8 * (number - c.args.first)) (8 * number) 8 (8 * (number + 1 - c.args.first)) old now next (omega arith) (omega arith) c.loop-number.invariant.cleared
          (subst (λ b. IsCleared (g.B.Base.sector b) (is_within (8 * number) 8) now next) c.loop-number.invariant.base c.zero_page.ensures.cleared);
      listed = λ q. c.zero_page.ensures.touched q ∙ c.loop-number.invariant.listed q;
      base = c.zero_page.ensures.base ∙ c.loop-number.invariant.base;
      sectors = c.zero_page.ensures.sectors ∙ c.loop-number.invariant.sectors;
    }
