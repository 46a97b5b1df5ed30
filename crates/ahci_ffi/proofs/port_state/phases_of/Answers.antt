use Rattle.std.proofs.Common.{arith, ap, ◌∙◌}
use Rattle.ncq_journal.specs.Phase.{phase}
use Rattle.ahci_ffi.specs.Flat.{phase_number}
use Rattle.ncq_journal.proofs.FilledLemmas.{one_more}
use Rattle.ahci_ffi.proofs.port_state.phases_of.Goals as goal

pub loop-tag-preserved : goal.loop-tag-preserved
loop-tag-preserved g c =
    one_more 0 (λ tag. phase_number (phase c.args.port.now.past tag)) c.loop-tag.phases c.loop-tag.tag c.from.result c.phase_number.result c.from.ensures (omega arith) c.loop-tag.invariant
    (c.phase_number.ensures ∙ ap phase_number c.phase.ensures)
