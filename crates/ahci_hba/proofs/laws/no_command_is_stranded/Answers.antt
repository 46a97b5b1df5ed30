-- Among the slots that wait, one has none before it.
use Rattle.ahci_hba.proofs.LawLemmas.{some_is_next}
use Rattle.ahci_hba.proofs.laws.no_command_is_stranded.Goals as goal

pub returns : goal.returns
returns g c = λ listening free alone slot l w. some_is_next c.args.hba.now slot listening free alone l w
