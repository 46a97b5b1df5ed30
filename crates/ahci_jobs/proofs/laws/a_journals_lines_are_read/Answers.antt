use Rattle.ahci_jobs.proofs.ScriptLemmas.{lines_read}
use Rattle.ahci_jobs.proofs.laws.a_journals_lines_are_read.Goals as goal

pub returns : goal.returns
returns c = lines_read
