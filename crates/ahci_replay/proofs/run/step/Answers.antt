use Rattle.ahci_port.specs.Faults.{step_refusal}
use Rattle.ahci_script.specs.Said.{said}
use Rattle.ahci_replay.specs.Commands.{HasStepped}
use Rattle.ahci_port.specs.Refusals.{of_step}
use Rattle.ahci_replay.proofs.SessionLemmas.{carried_out}
use Rattle.ahci_replay.proofs.run.step.Goals as goal

pub returns-in-Ok : goal.returns-in-Ok
returns-in-Ok g c =
    let a = c.args in
    let old = a.port.now in
    let new = c.step.new.self in
    carried_out _ c.in-Ok.done (step_refusal old a.step) of_step old new (said c.stepped.result) (HasStepped a.step old new (said c.stepped.result)) c.in-Ok.ensures.fault
    (record { done = c.in-Ok.done; stepped = c.in-Ok.ensures.ok; told = c.stepped.ensures })
