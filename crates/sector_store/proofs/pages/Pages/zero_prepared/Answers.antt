use Rattle.std.proofs.Common.{◌+◌, ◌-◌, ◌∙◌, subst}
use Rattle.sector_store.specs.Blank.{IsCleared}
use Rattle.sector_store.specs.Slots.{slot_at}
use Rattle.ncq_journal.specs.Image.{is_within}
use Rattle.sector_store.proofs.ZeroLemmas.{cleared_three}
use Rattle.sector_store.proofs.pages.Pages.zero_prepared.Goals as goal

pub returns-clause-cleared : goal.returns-clause-cleared
returns-clause-cleared g c =
    let sector = g.B.Base.sector in
    let below = sector c.args.self.now.base in
    let front = c.args.front in
    let back = c.args.back in
    let end = c.args.lba + c.args.sectors in
    let t3 = slot_at c.args.self.now.table in
    let t4 = slot_at c.zero_pages.new.self.table in
    let t5 = slot_at c.zero_part.new.self.table in
    let t6 = slot_at c.zero_part-2.new.self.table in
    let base4 = c.zero_pages.ensures.base in
    let base5 = c.zero_part.ensures.base ∙ base4 in
    cleared_three below c.args.lba c.args.sectors front back t3 t4 t5 t6 c.requires.from c.requires.order c.requires.to c.requires.first
    c.requires.last c.zero_pages.ensures.cleared
    (subst (λ b. IsCleared (sector b) (is_within c.args.lba (front - c.args.lba)) t4 t5) base4 c.zero_part.ensures.cleared)
    (subst (λ b. IsCleared (sector b) (is_within back (end - back)) t5 t6) base5 c.zero_part-2.ensures.cleared)
