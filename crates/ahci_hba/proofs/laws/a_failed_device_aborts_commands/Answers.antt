use Rattle.ahci_hba.proofs.CollisionLemmas.{aborts_others, answers_queued, sends_none}
use Rattle.ahci_hba.proofs.laws.a_failed_device_aborts_commands.Goals as goal

pub returns-clause-sends : goal.returns-clause-sends
returns-clause-sends g c = λ slot. sends_none c.args.hba.now slot c.requires

pub returns-clause-queued : goal.returns-clause-queued
returns-clause-queued g c = λ queued. answers_queued c.args.hba.now queued c.requires

pub returns-clause-others : goal.returns-clause-others
returns-clause-others g c = λ action other. aborts_others c.args.hba.now action c.requires other
