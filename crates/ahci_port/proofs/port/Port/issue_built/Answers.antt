use Rattle.std.proofs.Common.{◌∙◌, ap, sym}
use Rattle.ahci_port.specs.Faults.{early_refusal}
use Rattle.ahci_port.proofs.TakenLemmas.{early_refuses}
use Rattle.ahci_port.proofs.port.Port.issue_built.Goals as goal

pub returns-in-Some-clause-fault : goal.returns-in-Some-clause-fault
returns-in-Some-clause-fault g c =
    early_refuses c.args.self.now c.args.window c.in-Some.fault (ap (early_refusal c.args.self.now) (sym c.tag.ensures.value) ∙ sym c.early_fault.ensures ∙ c.in-Some.is)
