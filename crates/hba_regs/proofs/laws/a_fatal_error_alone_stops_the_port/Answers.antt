use Rattle.hba_regs.proofs.EventLemmas.{goes_on, stops}
use Rattle.hba_regs.proofs.laws.a_fatal_error_alone_stops_the_port.Goals as goal

pub returns-clause-goes_on : goal.returns-clause-goes_on
returns-clause-goes_on c = goes_on c.args.error c.args.regs.now.port

pub returns-clause-stops : goal.returns-clause-stops
returns-clause-stops c = stops c.args.error c.args.regs.now.port
