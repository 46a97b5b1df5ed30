-- the steps so far
use Rattle.std.proofs.Common.{None}
use Rattle.ncq_journal.proofs.FilledLemmas.{IsFilled}
use Rattle.ahci_hba.specs.Stepping.{next_step}
use Rattle.ahci_hba.proofs.hba.Hba.listening_steps.Given as goal

abbrev pub invariant-loop-number : goal.invariant-loop-number
invariant-loop-number g l = IsFilled None (next_step l.self) l.steps l.number
