use Rattle.std.proofs.Common.{subst, sym, ◌∙◌}
use Rattle.ncq_journal.specs.Work.{work_of}
use Rattle.ahci_driver.specs.Submitting.{IsNotBuilt}
use Rattle.ahci_driver.proofs.ready.Ready.new.Goals as goal

pub returns-in-Err-clause-fault : goal.returns-in-Err-clause-fault
returns-in-Err-clause-fault g c = subst (IsNotBuilt (work_of c.args.op.now)) (sym c.into.ensures) (sym c.default_fault.ensures.fault ∙ c.in_default.is)
