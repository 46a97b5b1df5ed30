use Rattle.std.proofs.Common.{arith, sym, ◌∙◌}
use Rattle.ahci_hba.proofs.OutlookLemmas.{steps_more}
use Rattle.ahci_hba.proofs.hba.Hba.listening_steps.Goals as goal

pub loop-number-preserved : goal.loop-number-preserved
loop-number-preserved g c =
    steps_more c.args.self.now c.loop-number.steps c.loop-number.number c.index.result c.in-Some.slot c.listening_step.result (sym c.of.ensures ∙ c.in-Some.is)
    c.index.ensures.value (omega arith) c.loop-number.invariant c.listening_step.ensures
