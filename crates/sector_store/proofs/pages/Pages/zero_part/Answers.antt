use Rattle.std.proofs.Common.{◌+◌, ◌<◌, sym, ◌∙◌, arith, refl, subst}
use Rattle.sector_store.specs.Blank.{AreClearable, IsCleared}
use Rattle.sector_store.specs.Slots.{slot_at}
use Rattle.ncq_journal.specs.Image.{is_within}
use Rattle.sector_store.proofs.ZeroLemmas.{cleared_none, cleared_more, clearable_cleared, clearable_one}
use Rattle.sector_store.proofs.pages.Pages.zero_part.Goals as goal

pub loop-k-init : goal.loop-k-init
loop-k-init g c = record {
  cleared = cleared_none (g.B.Base.sector c.args.self.now.base) c.args.lba 0 (slot_at c.args.self.now.table) refl;
  base = refl;
  sectors = refl;
}

pub zero_sector-requires-clause-inside : goal.zero_sector-requires-clause-inside
zero_sector-requires-clause-inside g c =
    let below : c.args.lba + c.loop-k.k < c.args.self.now.sectors = omega arith in
    rw c.loop-k.invariant.sectors below

pub zero_sector-requires-clause-clearable : goal.zero_sector-requires-clause-clearable
zero_sector-requires-clause-clearable g c =
    let below = g.B.Base.sector c.args.self.now.base in
    let now = slot_at c.loop-k.self.table in
    subst (λ b. AreClearable (g.B.Base.sector b) (is_within (c.args.lba + c.loop-k.k) 1) now) (sym c.loop-k.invariant.base)
    (clearable_one below c.args.lba c.args.sectors c.loop-k.k now (omega arith)
    (clearable_cleared below (is_within c.args.lba c.args.sectors) (is_within c.args.lba c.loop-k.k) (slot_at c.args.self.now.table) now c.requires.clearable c.loop-k.invariant.cleared))

pub loop-k-preserved : goal.loop-k-preserved
loop-k-preserved g c =
    let now = slot_at c.loop-k.self.table in
    let next = slot_at c.zero_sector.new.self.table in
    let k = c.loop-k.k in
    record {
      cleared =
          cleared_more (g.B.Base.sector c.args.self.now.base) c.args.lba k (c.args.lba + k) 1 (k + 1) (slot_at c.args.self.now.table) now next refl refl c.loop-k.invariant.cleared
          (subst (λ b. IsCleared (g.B.Base.sector b) (is_within (c.args.lba + k) 1) now next) c.loop-k.invariant.base c.zero_sector.ensures.cleared);
      base = c.zero_sector.ensures.base ∙ c.loop-k.invariant.base;
      sectors = c.zero_sector.ensures.sectors ∙ c.loop-k.invariant.sectors;
    }
