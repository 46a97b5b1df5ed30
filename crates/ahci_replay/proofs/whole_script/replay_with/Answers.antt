-- The script begins with how the writes before it went.
use Rattle.std.proofs.Common.{IfErr, ◌∙◌, subst}
use Rattle.ahci_replay.specs.Transcript.{WritesTo}
use Rattle.ahci_replay.proofs.whole_script.replay_with.Goals as goal

pub returns-clause-writes : goal.returns-clause-writes
returns-clause-writes g c =
    subst (λ w. IfErr c.replay_script-outcome.result (WritesTo w c.replay_script-outcome.new.script.writes)) (c.new-script.ensures.1.1 ∙ c.replace.ensures.value)
    c.replay_script-outcome.ensures.writes
