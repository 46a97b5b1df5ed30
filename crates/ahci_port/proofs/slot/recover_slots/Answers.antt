use Rattle.std.proofs.Common.{◌≡◌, ◌∙◌, Some, length, set, arith, ap, sym}
use Rattle.std.specs.Option.{option_map}
use Rattle.ahci_port.specs.Moves.{recovered_slot}
use Rattle.ahci_port.proofs.MappedLemmas.{recovered_more, recovered_all, recovered_none, recovered_first}
use Rattle.ahci_port.proofs.slot.recover_slots.Goals as goal
use Rattle.ahci_port.proofs.slot.recover_slots.Goals.{in-Some, in_default}

pub loop-index-init : goal.loop-index-init
loop-index-init g c = recovered_none c.args.slots.now

pub returns : goal.returns
returns g c =
    let f = c.loop-index-test.false in
    let l = c.loop-index.auto.index-end in
    let all : c.loop-index.index ≡ length c.args.slots.now = omega arith in
    c.loop-index.invariant ∙ ap (λ n. recovered_first n c.args.slots.now) all ∙ recovered_all c.args.slots.now

pub loop-index-preserved : goal.loop-index-preserved
loop-index-preserved g c = elim c.match-slots-index.branch [
  | in-Some w ↦ w.slots-is
      ∙ ap (set c.loop-index.slots c.loop-index.index) (ap (λ s. Some s) w.recover.ensures ∙ ap (option_map recovered_slot) (sym w.in-Some.is))
      ∙ recovered_more c.loop-index.index c.args.slots.now c.loop-index.slots c.index-slots-index.result c.loop-index.invariant (let t = c.loop-index-test.true in omega arith)
  | in_default w ↦ w.slots-is
      ∙ ap (set c.loop-index.slots c.loop-index.index) (w.in_default.is ∙ ap (option_map recovered_slot) (sym w.in_default.is))
      ∙ recovered_more c.loop-index.index c.args.slots.now c.loop-index.slots c.index-slots-index.result c.loop-index.invariant (let t = c.loop-index-test.true in omega arith)
]
