use Rattle.std.proofs.Common.{IfSome, ap, subst, sym, ◌∙◌}
use Rattle.ahci_check.specs.Complaints.{IsColumn}
use Rattle.ahci_check.specs.Judges.{of_job_reading}
use Rattle.ahci_check.proofs.JobLemmas.{job_column}
use Rattle.ahci_check.proofs.jobs.job_complaint_of.Goals as goal

pub returns-clause-column : goal.returns-clause-column
returns-clause-column c =
    subst (λ complaint. IfSome complaint (λ k. IfSome k.column (IsColumn c.args.line.now)))
    (sym (c.judged.ensures ∙ ap (of_job_reading c.args.number c.args.line.now) c.read_job.ensures))
    (job_column c.args.number c.args.line.now)
