use Rattle.ahci_port.specs.Faults.{trim_refusal}
use Rattle.ahci_script.specs.Said as says
use Rattle.ahci_port.specs.Refusals.{of_trim}
use Rattle.std.proofs.Common.{ap, ◌∙◌, length}
use Rattle.ahci_replay.proofs.SessionLemmas.{carried_out, refused}
use Rattle.ahci_replay.proofs.run.trim.Goals as goal

pub returns-in-Ok : goal.returns-in-Ok
returns-in-Ok g c =
    let old = c.args.port.now in
    carried_out _ c.in-Ok.journal (trim_refusal old) of_trim old c.trim.new.self (says.Trimmed c.len.result) _ c.in-Ok.ensures.fault
    (c.in-Ok.ensures.trimmed, c.shape.ensures.size, ap says.Trimmed (c.len.ensures ∙ ap (λ j. length j.past) c.in-Ok.ensures.journal))

pub returns-in-Err : goal.returns-in-Err
returns-in-Err g c =
    let a = c.args in
    refused _ c.in-Err.fault (trim_refusal a.port.now) of_trim c.into.result a.port.now
    c.trim.new.self _ c.in-Err.ensures.fault c.into.ensures c.in-Err.ensures.err
