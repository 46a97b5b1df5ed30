-- the pages so far
use Rattle.std.proofs.Common.{◌≡◌, ◌++◌}
use Rattle.hba_command.specs.HostLogs.{pages_of}
use Rattle.hba_command.proofs.host_logs.append.Given as goal

abbrev pub invariant-loop-index : goal.invariant-loop-index
invariant-loop-index g l = l.written.items ≡ l.initial.written.items ++ pages_of l.pages l.bytes l.index
