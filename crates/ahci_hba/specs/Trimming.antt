-- What a trim of the journal leaves.
use Rattle.ahci_port.specs.Steps.{trimmed}
use Rattle.ahci_hba.specs.HbaView.{HbaView}

-- the port hands out its journal, and nothing else of the controller changes
abbrev pub trimmed_hba : HbaView → HbaView
trimmed_hba h = record h { port = trimmed h.port }
