use Rattle.std.proofs.Common.{◌≡◌, ◌*◌, ◌/◌, ◌<◌, length, None, Some, set, sym, arith, subst}
use Rattle.sector_store.specs.Slots.{branch_slot, slot_at, table_span, HasGrown}
use Rattle.sector_store.proofs.LevelLemmas.{level_grown, has_grown-on, part_is, part_stays}
use Rattle.sector_store.proofs.table.Table.make.Goals as goal

pub returns-in-Some-clause-grown : goal.returns-in-Some-clause-grown
unfolding slot_at table_span
returns-in-Some-clause-grown g c =
    let parts = c.self.inside.branches.items in
    let i = c.args.number / 32768 in
    let room : c.args.number < 32768 * length parts = subst (λ v. c.args.number < 32768 * length v) (sym c.self.view_is) c.requires in
    let inside : i < length parts = omega arith in
    subst (λ v. HasGrown (slot_at v) (slot_at (set parts i (Some c.make.new.self)))) c.self.view_is
    (level_grown branch_slot 32768 i parts (Some c.in-Some.branch) c.make.new.self inside
    (part_is parts i c.index_mut.result.now (Some c.in-Some.branch) inside c.index_mut.ensures.value c.in-Some.is) c.make.ensures.grown)

pub returns-clause-grown : goal.returns-clause-grown
unfolding slot_at table_span
returns-clause-grown g c =
    let parts = c.self.inside.branches.items in
    let i = c.args.number / 32768 in
    let room : c.args.number < 32768 * length parts = subst (λ v. c.args.number < 32768 * length v) (sym c.self.view_is) c.requires in
    let inside : i < length parts = omega arith in
    let same : set parts i c.index_mut.result.now ≡ parts = part_stays parts i c.index_mut.result.now c.index_mut.ensures.value in
    subst (λ v. HasGrown (slot_at v) (slot_at (set (set parts i c.index_mut.result.now) i (Some c.make-made.new.self)))) c.self.view_is
    (subst (λ ps. HasGrown (slot_at parts) (slot_at (set ps i (Some c.make-made.new.self)))) (sym same)
    (level_grown branch_slot 32768 i parts None c.make-made.new.self inside
    (part_is parts i c.index_mut.result.now None inside c.index_mut.ensures.value c.in_default.is)
    (has_grown-on (branch_slot c.in_ok-branch.branch) (branch_slot c.make-made.new.self) c.in_ok-branch.ensures c.make-made.ensures.grown)))
