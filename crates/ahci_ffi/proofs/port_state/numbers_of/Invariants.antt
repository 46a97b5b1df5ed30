-- the numbers so far
use Rattle.std.specs.Option.{unwrap_or}
use Rattle.ahci_port.specs.PortView.{owner_of}
use Rattle.ncq_journal.proofs.FilledLemmas.{IsFilled}
use Rattle.ahci_ffi.proofs.port_state.numbers_of.Given as goal

abbrev pub invariant-loop-tag : goal.invariant-loop-tag
invariant-loop-tag g l = IsFilled 0 (λ tag. unwrap_or (owner_of l.port tag) 0) l.numbers l.tag
