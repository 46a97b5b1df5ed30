use Rattle.std.proofs.Common.{◌≡◌, ◌∙◌, None, replicate, ap, arith}
use Rattle.ahci_hba.proofs.hba.empty_slots.Goals as goal

pub returns : goal.returns
returns g c = let all : c.loop-slot.slot ≡ 32 = omega arith in c.loop-slot.invariant ∙ ap (λ n. replicate n None) all
