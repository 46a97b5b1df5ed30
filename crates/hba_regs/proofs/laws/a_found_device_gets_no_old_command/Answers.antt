use Rattle.std.proofs.Common.{◌∙◌}
use Rattle.hba_regs.specs.LinkEvents.{lost, unplugged}
use Rattle.hba_regs.proofs.EventLemmas.{found_waits, lost_stops, plugged_waits}
use Rattle.hba_regs.proofs.laws.a_found_device_gets_no_old_command.Goals as goal

pub returns-clause-found : goal.returns-clause-found
returns-clause-found c =
    let p = c.args.regs.now.port in
    found_waits (lost p p.link) ∙ lost_stops p p.link c.requires.link c.requires.st

pub returns-clause-plugged : goal.returns-clause-plugged
returns-clause-plugged c =
    let p = c.args.regs.now.port in
    plugged_waits (unplugged p) ∙ lost_stops p p.link c.requires.link c.requires.st
