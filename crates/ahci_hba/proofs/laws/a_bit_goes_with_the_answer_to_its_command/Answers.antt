use Rattle.ahci_hba.proofs.BitLemmas.{active, issued}
use Rattle.ahci_hba.proofs.laws.a_bit_goes_with_the_answer_to_its_command.Goals as goal

pub returns-clause-issued : goal.returns-clause-issued
returns-clause-issued g c = λ t slot. issued t c.args.hba.now.registers.port slot

pub returns-clause-active : goal.returns-clause-active
returns-clause-active g c = λ t slot. active t c.args.hba.now.registers.port slot
