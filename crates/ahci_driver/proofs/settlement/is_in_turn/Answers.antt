use Rattle.std.proofs.Common.{refl, arith}
use Rattle.ahci_driver.proofs.settlement.is_in_turn.Goals as goal

pub returns-then-index-workers : goal.returns-then-index-workers
returns-then-index-workers g c = (λ t late. absurd (let low = c.if-index-workers.true in let none : ⊥ = omega arith in none), λ before. refl)
