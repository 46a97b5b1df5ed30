-- One page more of a log of several.
use Rattle.std.proofs.Common.{◌≡◌, ℕ, ◌+◌, ◌++◌}
use Rattle.hba_command.specs.LongLogs.{long_log_page, long_log_pages}
use Rattle.hba_command.specs.declared.device.Device.{Device}
use Rattle.hba_command.specs.declared.log.LongLog.{LongLog}
use Rattle.ahci_hba.proofs.FailingLemmas.{flat_map_one_more}

pub one_page_more : (log : LongLog) (s d : ℕ) (device : Device) (first n : ℕ)
    → long_log_pages log s d device first (n + 1) ≡ long_log_pages log s d device first n ++ long_log_page log s d device (first + n)
one_page_more log s d device first n = flat_map_one_more (long_log_page log s d device) first n
