-- Each step with a command wants a device that isn't in Sleep.
use Rattle.ahci_hba.proofs.LawLemmas.{asleep_answers_none}
use Rattle.ahci_hba.proofs.laws.a_device_in_sleep_answers_no_command.Goals as goal

pub returns : goal.returns
returns g c = λ idle slot. asleep_answers_none c.args.hba.now slot c.requires idle
