-- no tag so far comes after itself
use Rattle.std.proofs.Common.{◌≡◌, drop}
use Rattle.ahci_port.specs.Faults.{names_twice}
use Rattle.ahci_port.proofs.port.serve.names_twice.Given as goal

abbrev pub invariant-loop-index : goal.invariant-loop-index
invariant-loop-index l = names_twice (drop l.index l.tags) ≡ names_twice l.tags
