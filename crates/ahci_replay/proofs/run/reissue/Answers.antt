use Rattle.ahci_port.specs.Faults.{reissue_refusal}
use Rattle.ahci_port.specs.Refusals.{of_reissue}
use Rattle.ahci_replay.proofs.SessionLemmas.{refused}
use Rattle.ahci_replay.proofs.run.reissue.Goals as goal

pub returns-in-Err : goal.returns-in-Err
returns-in-Err g c =
    let a = c.args in
    refused _ c.in-Err.fault (reissue_refusal a.port.now a.tag) of_reissue c.into.result a.port.now
    c.reissue.new.self _ c.in-Err.ensures.fault c.into.ensures c.in-Err.ensures.err
