-- The first entries are there.
use Rattle.std.proofs.Common.{◌≡◌}
use Rattle.ahci_trace.specs.Sent.{entries_in}
use Rattle.ahci_trace.proofs.sent.entries_in.Given as goal

abbrev pub invariant-loop-index : goal.invariant-loop-index
invariant-loop-index g l = l.entries.items ≡ entries_in l.bytes l.index
