-- The device lets a command through that is not queued, and nothing changes until it is answered.
use Rattle.std.proofs.Common.{◌≡◌}
use Rattle.ncq_core.specs.DiskState.{DiskState}
use Rattle.ncq_core.specs.Verdict.{verdict}
use Rattle.ncq_core.specs.declared.taken.Taken.TheVariants as taken
use Rattle.ncq_journal.specs.declared.plain.Plain.{Plain}
use Rattle.ncq_journal.specs.declared.plain.Plain.TheVariants.{Identify, Flush, ReadLog}
use Rattle.ahci_port.specs.Carrying.{Passes}
use Rattle.ahci_port.specs.Unqueued.{cfis_for}
use Rattle.ahci_port.proofs.LogLemmas.{log_passes, stopped_state}
use Rattle.ahci_port.proofs.QuietLemmas.{flush_passes, flush_state, identify_passes, identify_state}

pub passes_through : (plain : Plain) (disk : DiskState) → Passes plain disk → (verdict disk (cfis_for plain)).answer ≡ taken.Plain plain
passes_through Identify disk p = identify_passes disk p.0 p.1
passes_through Flush disk p = flush_passes disk p.0 p.1
passes_through ReadLog disk p = log_passes disk p

pub state_stays : (plain : Plain) (disk : DiskState) → Passes plain disk → (verdict disk (cfis_for plain)).state ≡ disk
state_stays Identify disk p = identify_state disk p.0
state_stays Flush disk p = flush_state disk p.0
state_stays ReadLog disk p = stopped_state disk (cfis_for ReadLog) p
