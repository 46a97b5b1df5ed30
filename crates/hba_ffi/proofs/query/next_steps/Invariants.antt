-- the numbers so far
use Rattle.ahci_hba.specs.Stepping.{next_step}
use Rattle.hba_ffi.specs.Looking.{step_number}
use Rattle.ncq_journal.proofs.FilledLemmas.{IsFilled}
use Rattle.hba_ffi.proofs.query.next_steps.Given as goal

abbrev pub invariant-loop-slot : goal.invariant-loop-slot
invariant-loop-slot g l = IsFilled 0 (λ slot. step_number (next_step l.hba slot)) l.numbers l.slot
