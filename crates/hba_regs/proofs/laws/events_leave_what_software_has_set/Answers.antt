use Rattle.hba_regs.proofs.EventLemmas.{failed_keeps, found_keeps, lost_keeps, plugged_keeps, unknown_keeps, unplugged_keeps}
use Rattle.hba_regs.proofs.laws.events_leave_what_software_has_set.Goals as goal

pub returns-clause-lost : goal.returns-clause-lost
returns-clause-lost c = lost_keeps c.args.regs.now.port c.args.regs.now.port.link

pub returns-clause-found : goal.returns-clause-found
returns-clause-found c = found_keeps c.args.regs.now.port

pub returns-clause-unplugged : goal.returns-clause-unplugged
returns-clause-unplugged c = unplugged_keeps c.args.regs.now.port

pub returns-clause-plugged : goal.returns-clause-plugged
returns-clause-plugged c = plugged_keeps c.args.regs.now.port

pub returns-clause-failed : goal.returns-clause-failed
returns-clause-failed c = failed_keeps c.args.error c.args.is_fatal c.args.regs.now.port

pub returns-clause-unknown : goal.returns-clause-unknown
returns-clause-unknown c = unknown_keeps c.args.regs.now.port
