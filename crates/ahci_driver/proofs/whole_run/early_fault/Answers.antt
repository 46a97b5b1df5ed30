use Rattle.std.proofs.Common.{◌≡◌, ◌∙◌, ap, length, nat_eq, sym}
use Rattle.ahci_driver.proofs.RunningLemmas.{fresh, not_fresh}
use Rattle.ahci_driver.proofs.whole_run.early_fault.Goals as goal
use Rattle.ahci_driver.proofs.whole_run.early_fault.Goals.{After-is_empty}

-- whether the port's journal is empty
empty : (g : _) (c : After-is_empty g) → nat_eq (length c.args.port.now.past) 0 ≡ c.is_empty.result
empty g c = sym (c.is_empty.ensures ∙ ap (λ past. nat_eq (length past) 0) c.journal.ensures.past)

pub returns-then-not-is_empty : goal.returns-then-not-is_empty
returns-then-not-is_empty g c = not_fresh c.args.port.now.past (empty g (goal.at.returns-then-not-is_empty g c).After-is_empty ∙ c.if-not-is_empty.true)

pub returns-in-Some : goal.returns-in-Some
returns-in-Some g c = (fresh c.args.port.now.past (empty g (goal.at.returns-in-Some g c).After-is_empty ∙ c.if-not-is_empty.false), c.in-Some.ensures)

pub returns-in-None : goal.returns-in-None
returns-in-None g c = (fresh c.args.port.now.past (empty g (goal.at.returns-in-None g c).After-is_empty ∙ c.if-not-is_empty.false), c.in-None.ensures)
