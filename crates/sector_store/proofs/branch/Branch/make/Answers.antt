use Rattle.std.proofs.Common.{◌≡◌, ◌/◌, ◌<◌, length, None, Some, set, arith, subst}
use Rattle.sector_store.specs.Slots.{leaf_slot, branch_slot, HasGrown}
use Rattle.sector_store.proofs.LevelLemmas.{level_grown, has_grown-new, part_is}
use Rattle.sector_store.proofs.branch.Branch.make.Goals as goal

pub returns-clause-grown : goal.returns-clause-grown
returns-clause-grown g c =
    let parts = c.self.inside.leaves.items in
    let i = c.args.place / 16 in
    let count : length parts ≡ 2048 = c.self.invariant in
    let inside : i < length parts = omega arith in
    subst (λ v. HasGrown (branch_slot v) (branch_slot (set parts i (Some c.in_ok-leaf.leaf)))) c.self.view_is
    (level_grown leaf_slot 16 i parts None c.in_ok-leaf.leaf inside
    (part_is parts i c.index.result.now None inside c.index.ensures c.in_default.is) (has_grown-new (leaf_slot c.in_ok-leaf.leaf) c.in_ok-leaf.ensures))
