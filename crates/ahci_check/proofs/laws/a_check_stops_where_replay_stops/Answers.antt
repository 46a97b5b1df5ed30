use Rattle.ahci_check.proofs.AgreementLemmas.{check_agrees}
use Rattle.ahci_check.proofs.laws.a_check_stops_where_replay_stops.Goals as goal

pub returns : goal.returns
returns c = check_agrees
