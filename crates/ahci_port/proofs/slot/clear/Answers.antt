use Rattle.std.proofs.Common.{◌≡◌, ◌∙◌, length, ap, arith}
use Rattle.ahci_port.proofs.ResettingLemmas.{cleared_all, cleared_first}
use Rattle.ahci_port.proofs.slot.clear.Goals as goal

pub returns : goal.returns
returns g c =
    let f = c.loop-tag-test.false in
    let l = c.loop-tag.auto.tag-end in
    let all : c.loop-tag.tag ≡ length c.args.slots.now = omega arith in
    c.loop-tag.invariant ∙ ap (λ n. cleared_first n c.args.slots.now) all ∙ cleared_all c.args.slots.now
