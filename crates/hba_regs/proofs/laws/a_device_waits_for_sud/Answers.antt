use Rattle.std.proofs.Common.{ap}
use Rattle.hba_regs.proofs.LawLemmas.{spins, still_waits}
use Rattle.hba_regs.proofs.laws.a_device_waits_for_sud.Goals as goal

pub returns-clause-waits : goal.returns-clause-waits
returns-clause-waits c = still_waits c.args.regs.now.port c.args.value c.requires.link c.requires.sud c.requires.sss

pub returns-clause-up : goal.returns-clause-up
returns-clause-up c = λ d b. ap (λ p. p.link) (spins c.args.regs.now.port c.args.value d c.requires.link c.requires.sud c.requires.sss b)

pub returns-clause-due : goal.returns-clause-due
returns-clause-due c = λ d b. ap (λ p. p.signature) (spins c.args.regs.now.port c.args.value d c.requires.link c.requires.sud c.requires.sss b)
