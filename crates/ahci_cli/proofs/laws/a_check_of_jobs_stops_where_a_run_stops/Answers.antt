use Rattle.ahci_cli.proofs.JobsLemmas.{jobs_agree}
use Rattle.ahci_cli.proofs.laws.a_check_of_jobs_stops_where_a_run_stops.Goals as goal

pub returns : goal.returns
returns c = jobs_agree
