use Rattle.std.proofs.Common.{true, false}
use Rattle.ahci_hba.proofs.OutlookLemmas.{empty_is}
use Rattle.ahci_hba.proofs.hba.Hba.empty_step.Goals as goal

pub returns-then-waits_within : goal.returns-then-waits_within
returns-then-waits_within g c =
    empty_is c.args.self.now c.args.outlook.now.reach c.args.slot c.number.result true c.requires.outlook.listening c.requires.outlook.reach c.requires.empty
    c.number.ensures.value c.number.ensures.below c.if-waits_within.ensures

pub returns-else-waits_within : goal.returns-else-waits_within
returns-else-waits_within g c =
    empty_is c.args.self.now c.args.outlook.now.reach c.args.slot c.number.result false c.requires.outlook.listening c.requires.outlook.reach c.requires.empty
    c.number.ensures.value c.number.ensures.below c.if-waits_within.ensures
