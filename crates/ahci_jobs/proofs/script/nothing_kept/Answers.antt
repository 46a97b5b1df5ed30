use Rattle.std.proofs.Common.{◌∙◌}
use Rattle.std.proofs.lemmas.List.{get_or-replicate}
use Rattle.ahci_jobs.specs.Scripts.{nothing_issued}
use Rattle.ahci_jobs.proofs.script.nothing_kept.Goals as goal

pub returns : goal.returns
returns c = λ sectors tag low. get_or-replicate 256 tag c.none.result nothing_issued low ∙ c.none.ensures
