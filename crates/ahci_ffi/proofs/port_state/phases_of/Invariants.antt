-- the phases so far
use Rattle.ncq_journal.specs.Phase.{phase}
use Rattle.ahci_ffi.specs.Flat.{phase_number}
use Rattle.ncq_journal.proofs.FilledLemmas.{IsFilled}
use Rattle.ahci_ffi.proofs.port_state.phases_of.Given as goal

abbrev pub invariant-loop-tag : goal.invariant-loop-tag
invariant-loop-tag g l = IsFilled 0 (λ tag. phase_number (phase l.port.past tag)) l.phases l.tag
