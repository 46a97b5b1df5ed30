use Rattle.std.proofs.Common.{arith, refl, ap, ◌∙◌}
use Rattle.ahci_hba.specs.Stepping.{next_step}
use Rattle.hba_ffi.specs.Looking.{step_number}
use Rattle.ncq_journal.proofs.FilledLemmas.{one_more}
use Rattle.hba_ffi.proofs.query.next_steps.Goals as goal

pub loop-slot-preserved : goal.loop-slot-preserved
loop-slot-preserved g c =
    one_more 0 (λ slot. step_number (next_step c.args.hba.now slot)) c.loop-slot.numbers c.loop-slot.slot c.loop-slot.slot c.step_number.result refl (omega arith)
    c.loop-slot.invariant (c.step_number.ensures ∙ ap step_number (c.next_steps-steps.ensures c.loop-slot.slot (omega arith)))
