use Rattle.std.proofs.Common.{◌*◌, ◌≤◌, ◌∙◌}
use Rattle.sector_store.specs.Slots.{slot_at, table_span}
use Rattle.sector_store.proofs.ChangeLemmas.{last_made, touched_less, whole_kept, now_kept}
use Rattle.sector_store.proofs.pages.Pages.keep_all.Goals as goal

pub keep-requires : goal.keep-requires
keep-requires g c =
    last_made c.in-Some.number c.pop.new.self.items c.loop-number.self.touched.items (slot_at c.loop-number.self.table) c.in-Some.ensures.items c.loop-number.self.touched_are

pub invariant_of-self : goal.invariant_of-self
invariant_of-self g c =
    let old = slot_at c.loop-number.self.table in
    let new = slot_at c.keep.new.table in
    let room : c.loop-number.self.sectors ≤ 8 * table_span c.keep.new.table = rw c.keep.ensures.span c.loop-number.self.room in
    record {
      most = c.loop-number.self.most;
      room = room;
      whole = whole_kept c.in-Some.number old new c.keep.ensures.others c.keep.ensures.layers c.loop-number.self.whole;
      touched_are = touched_less c.in-Some.number c.pop.new.self.items _ old new _ c.in-Some.ensures.items c.keep.ensures.others c.keep.ensures.layers c.loop-number.self.touched_are;
    }

pub loop-number-preserved : goal.loop-number-preserved
loop-number-preserved g c = record {
  now = λ below s. now_kept below c.in-Some.number (slot_at c.loop-number.self.table) (slot_at c.keep.new.table) c.keep.ensures.others c.keep.ensures.layers s ∙ c.loop-number.invariant.now below s;
  base = c.loop-number.invariant.base;
  sectors = c.loop-number.invariant.sectors;
}
