use Rattle.std.proofs.Common.{◌*◌, ◌≤◌, ap, ◌∙◌}
use Rattle.sector_store.specs.Layers.{Layers}
use Rattle.sector_store.specs.Slots.{slot_at, table_span}
use Rattle.sector_store.proofs.ChangeLemmas.{last_made, touched_less, whole_dropped, kept_dropped}
use Rattle.sector_store.proofs.pages.Pages.restore_all.Goals as goal

pub restore-requires : goal.restore-requires
restore-requires g c =
    last_made c.in-Some.number c.pop.new.self.items c.loop-number.self.touched.items (slot_at c.loop-number.self.table) c.in-Some.ensures.items c.loop-number.self.touched_are

pub invariant_of-self : goal.invariant_of-self
invariant_of-self g c =
    let old = slot_at c.loop-number.self.table in
    let new = slot_at c.restore.new.table in
    let room : c.loop-number.self.sectors ≤ 8 * table_span c.restore.new.table = rw c.restore.ensures.span c.loop-number.self.room in
    record {
      most = c.loop-number.self.most;
      room = room;
      whole = whole_dropped c.in-Some.number old new c.restore.ensures.others c.restore.ensures.layers c.loop-number.self.whole;
      touched_are = touched_less c.in-Some.number c.pop.new.self.items _ old new _ c.in-Some.ensures.items c.restore.ensures.others c.restore.ensures.layers c.loop-number.self.touched_are;
    }

pub loop-number-preserved : goal.loop-number-preserved
loop-number-preserved g c = record {
  kept = λ below s. kept_dropped below c.in-Some.number (slot_at c.loop-number.self.table) (slot_at c.restore.new.table) c.restore.ensures.others (ap (λ (l : Layers). l.lower) c.restore.ensures.layers) s ∙ c.loop-number.invariant.kept below s;
  base = c.loop-number.invariant.base;
  sectors = c.loop-number.invariant.sectors;
}
