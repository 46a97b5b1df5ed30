use Rattle.std.proofs.Common.{◌≡◌, ◌/◌, Some, true, set, sym, subst}
use Rattle.std.specs.Option.{is_some}
use Rattle.sector_store.specs.Slots.{branch_slot, slot_at, IsExchanged}
use Rattle.sector_store.proofs.LevelLemmas.{part_exchanged}
use Rattle.sector_store.proofs.table.Table.exchange.Goals as goal

pub returns-in-Some-clause-slots : goal.returns-in-Some-clause-slots
unfolding slot_at
returns-in-Some-clause-slots g c =
    let parts = c.self.inside.branches.items in
    let made = subst (λ v. is_some (slot_at v c.args.number) ≡ true) (sym c.self.view_is) c.requires in
    subst (λ v. IsExchanged c.args.number c.args.slot (slot_at v) (slot_at (set parts (c.args.number / 32768) (Some c.exchange.new.self)))) c.self.view_is
    (part_exchanged branch_slot 32768 c.args.number parts c.index_mut.result.now c.in-Some.branch c.exchange.new.self c.args.slot made c.index_mut.ensures.value c.in-Some.is c.exchange.ensures.slots)
