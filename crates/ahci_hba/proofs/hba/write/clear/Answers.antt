use Rattle.std.proofs.Common.{◌≡◌, ◌∙◌, length, ap, arith}
use Rattle.ahci_port.proofs.ResettingLemmas.{cleared_all, cleared_first, cleared_more, cleared_none}
use Rattle.ahci_hba.proofs.hba.write.clear.Goals as goal

pub loop-slot-init : goal.loop-slot-init
loop-slot-init g c = cleared_none c.args.slots.now

pub loop-slot-preserved : goal.loop-slot-preserved
loop-slot-preserved g c = cleared_more c.loop-slot.slot c.args.slots.now c.loop-slot.slots c.loop-slot.invariant c.loop-slot-test.true

pub returns : goal.returns
returns g c =
    let f = c.loop-slot-test.false in
    let l = c.loop-slot.auto.slot-end in
    let all : c.loop-slot.slot ≡ length c.args.slots.now = omega arith in
    c.loop-slot.invariant ∙ ap (λ n. cleared_first n c.args.slots.now) all ∙ cleared_all c.args.slots.now
