-- What becomes of the logs that are the host's (ACS-3, "Host Specific logs").
use Rattle.std.specs.Prelude.{List, Option, None, Some}
use Rattle.hba_command.specs.declared.host_page.HostPage.{HostPage}
use Rattle.ahci_hba.specs.HbaView.{HbaView}

abbrev pub logging : HbaView → List HostPage → HbaView
logging h logs = record h { logs = logs }

-- the logs behind a transfer that writes one, or none
abbrev pub logs_behind : (written : Option (List HostPage)) → (logs : List HostPage) → List HostPage
logs_behind None logs = logs
logs_behind (Some written) logs = written
