-- the pages so far
use Rattle.std.proofs.Common.{◌≡◌}
use Rattle.hba_command.specs.LongLogs.{long_log_pages}
use Rattle.ahci_hba.proofs.hba.log.long_log_pages.Given as goal

abbrev pub invariant-loop-index : goal.invariant-loop-index
invariant-loop-index g l = l.bytes.items ≡ long_log_pages l.log l.sectors l.depth l.device l.first l.index
