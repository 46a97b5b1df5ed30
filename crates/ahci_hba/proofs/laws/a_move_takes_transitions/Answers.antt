use Rattle.hba_regs.specs.declared.fatal.Fatal.TheVariants as fatal
use Rattle.ahci_hba.proofs.StepTransitionLemmas.{signs}
use Rattle.ahci_hba.proofs.TransitionLemmas.{fails_host, puts, supplies}
use Rattle.ahci_hba.proofs.laws.a_move_takes_transitions.Goals as goal

pub returns-clause-read : goal.returns-clause-read
returns-clause-read g c = λ bytes. supplies c.args.hba.now c.args.hba.now.dma bytes

pub returns-clause-written : goal.returns-clause-written
returns-clause-written g c = puts c.args.hba.now c.args.hba.now.dma

pub returns-clause-unmapped : goal.returns-clause-unmapped
returns-clause-unmapped g c = fails_host fatal.HostBusFatal c.args.hba.now c.args.hba.now.dma

pub returns-clause-spoiled : goal.returns-clause-spoiled
returns-clause-spoiled g c = fails_host fatal.HostBusData c.args.hba.now c.args.hba.now.dma

pub returns-clause-signed : goal.returns-clause-signed
returns-clause-signed g c = λ kind. signs c.args.hba.now kind
