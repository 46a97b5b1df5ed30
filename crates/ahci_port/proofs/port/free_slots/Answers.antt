use Rattle.std.proofs.Common.{◌≡◌, ◌∙◌, None, replicate, ap, arith}
use Rattle.ahci_port.proofs.port.free_slots.Goals as goal

pub returns : goal.returns
returns g c = let all : c.loop-tag.tag ≡ c.args.depth = omega arith in c.loop-tag.invariant ∙ ap (λ n. replicate n None) all
