-- the pages so far
use Rattle.std.proofs.Common.{◌≡◌}
use Rattle.std.specs.List.{flat_map, range_with_len}
use Rattle.hba_command.specs.HostLogs.{host_page}
use Rattle.hba_command.proofs.host_logs.HostLogs.read.Given as goal

abbrev pub invariant-loop-index : goal.invariant-loop-index
invariant-loop-index g l = l.bytes.items ≡ flat_map (host_page l.self l.pages.log) (range_with_len l.pages.first l.index)
