use Rattle.std.proofs.Common.{◌≡◌, ◌/◌, Some, true, set, sym, subst}
use Rattle.std.specs.Option.{is_some}
use Rattle.sector_store.specs.Slots.{leaf_slot, branch_slot, IsExchanged}
use Rattle.sector_store.proofs.LevelLemmas.{part_exchanged}
use Rattle.sector_store.proofs.branch.Branch.exchange.Goals as goal

pub returns-in-Some-clause-slots : goal.returns-in-Some-clause-slots
returns-in-Some-clause-slots g c =
    let parts = c.self.inside.leaves.items in
    let made = subst (λ v. is_some (branch_slot v c.args.place) ≡ true) (sym c.self.view_is) c.requires in
    subst (λ v. IsExchanged c.args.place c.args.slot (branch_slot v) (branch_slot (set parts (c.args.place / 16) (Some c.exchange.new.self)))) c.self.view_is
    (part_exchanged leaf_slot 16 c.args.place parts c.index_mut.result.now c.in-Some.leaf c.exchange.new.self c.args.slot made c.index_mut.ensures.value c.in-Some.is c.exchange.ensures.slots)
