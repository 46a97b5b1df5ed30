-- each set has the tags so far
use Rattle.std.proofs.Common.{◌≡◌}
use Rattle.word_bits.specs.Places.{bits}
use Rattle.ncq_journal.specs.Phase.{phase}
use Rattle.ncq_journal.proofs.SetLemmas.{among}
use Rattle.ahci_port.specs.Faults.{is_issued, is_accepted, is_held}
use Rattle.ahci_port.proofs.port.Port.tag_sets.Given as goal

abbrev pub invariant-loop-tag : goal.invariant-loop-tag
invariant-loop-tag g l = record {
  issued : bits l.issued ≡ among (λ t. is_issued (phase l.self.past t)) l.tag;
  accepted : bits l.accepted ≡ among (λ t. is_accepted (phase l.self.past t)) l.tag;
  held : bits l.held ≡ among (λ t. is_held (phase l.self.past t)) l.tag;
}
