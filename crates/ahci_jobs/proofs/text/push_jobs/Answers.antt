use Rattle.ahci_jobs.proofs.FormLemmas.{next_job}
use Rattle.ahci_jobs.proofs.text.push_jobs.Goals as goal

pub loop-job-preserved : goal.loop-job-preserved
loop-job-preserved g c =
    next_job c.args.form c.args.workers c.args.text.now.bytes c.loop-job.text.bytes _ c.args.replies.now c.loop-job.job c.index-replies-job.result c.loop-job-test.true
    c.index-replies-job.is c.loop-job.invariant c.in_ok-push_job.ensures
