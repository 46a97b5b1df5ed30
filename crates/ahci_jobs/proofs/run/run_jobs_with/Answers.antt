use Rattle.std.proofs.Common.{◌∙◌, ap, map, subst, sym}
use Rattle.std.specs.Io.KnownBytes.{Appends}
use Rattle.ncq_journal.specs.Work.{work_of}
use Rattle.ahci_driver.specs.Received.{received_of}
use Rattle.streams.proofs.FoundLemmas.{if_err_from}
use Rattle.ahci_jobs.specs.Faults.{RunReads, RunWrites}
use Rattle.ahci_jobs.specs.JobList.{IsListed}
use Rattle.ahci_jobs.specs.Forms.{written_of}
use Rattle.ahci_jobs.specs.RunJobs.{EndsRun, SaysPart, blank_port}
use Rattle.ahci_jobs.specs.declared.jobs_fault.JobsFault.TheVariants.{Write}
use Rattle.ahci_jobs.proofs.RunningLemmas.{AllProper, ends_running, listed_proper, reads_running, writes_listing, writes_running}
use Rattle.ahci_jobs.proofs.run.run_jobs_with.Goals as goal

pub done-requires-clause-jobs : goal.done-requires-clause-jobs
done-requires-clause-jobs g c κs within = subst (λ js. AllProper (map work_of js)) (sym c.deref.ensures.value) (listed_proper _ _ _ c.in_ok-jobs.ensures.ok)

pub returns-in-Err-clause-err : goal.returns-in-Err-clause-err
returns-in-Err-clause-err g c =
    subst (EndsRun c.args.form c.args.size _ _ _ _) (sym c.given_up.ensures)
    (ends_running c.in-Err.fault (blank_port c.args.size) c.args.form c.args.size (g.R.Read.remaining c.args.reader.now)
    (g.R.Read.remaining c.listed.new.reader) (g.W.Write.contents c.args.writer.now) (map work_of c.deref.result.now)
    (subst (λ js. IsListed (g.R.Read.remaining c.args.reader.now) (g.R.Read.remaining c.listed.new.reader) (map work_of js)) (sym c.deref.ensures.value) c.in_ok-jobs.ensures.ok)
    c.in-Err.ensures.fault)

pub returns-in_ok-write_whole-in-Ok-clause-ok : goal.returns-in_ok-write_whole-in-Ok-clause-ok
returns-in_ok-write_whole-in-Ok-clause-ok g c =
    let replies = map received_of c.in-Ok.end.replies.items in
    let whole = c.deref-in-Ok.ensures.value ∙ c.in_ok-text-in-Ok.ensures ∙ ap (λ workers. written_of c.args.form workers c.in-Ok.end.port replies) c.workers.ensures.is in
    record {
      jobs = map work_of c.deref.result.now;
      port = c.in-Ok.end.port;
      replies = replies;
      listed = subst (λ js. IsListed (g.R.Read.remaining c.args.reader.now) (g.R.Read.remaining c.listed.new.reader) (map work_of js)) (sym c.deref.ensures.value) c.in_ok-jobs.ensures.ok;
      ran = c.in-Ok.ensures.ok;
      told = subst (Appends (g.W.Write.contents c.args.writer.now) (g.W.Write.contents c.write_whole.new.writer)) whole c.in_ok-write_whole-in-Ok.ensures.written;
    }

pub returns-in_err-write_whole-in-Ok-clause-err : goal.returns-in_err-write_whole-in-Ok-clause-err
returns-in_err-write_whole-in-Ok-clause-err g c =
    let replies = map received_of c.in-Ok.end.replies.items in
    let whole = c.deref-in-Ok.ensures.value ∙ c.in_ok-text-in-Ok.ensures ∙ ap (λ workers. written_of c.args.form workers c.in-Ok.end.port replies) c.workers.ensures.is in
    if_err_from _ Write (EndsRun c.args.form c.args.size _ _ _ _) c.from_residual-in_err-write_whole-in-Ok.ensures.1
    (record {
      jobs = map work_of c.deref.result.now;
      port = c.in-Ok.end.port;
      replies = replies;
      listed = subst (λ js. IsListed (g.R.Read.remaining c.args.reader.now) (g.R.Read.remaining c.listed.new.reader) (map work_of js)) (sym c.deref.ensures.value) c.in_ok-jobs.ensures.ok;
      ran = c.in-Ok.ensures.ok;
      told = subst (SaysPart (g.W.Write.contents c.args.writer.now) (g.W.Write.contents c.write_whole.new.writer)) whole c.in_err-write_whole-in-Ok.ensures.part;
    })

pub returns-in_err-write_whole-in-Ok-clause-reads : goal.returns-in_err-write_whole-in-Ok-clause-reads
returns-in_err-write_whole-in-Ok-clause-reads g c =
    if_err_from _ Write (RunReads c.args.reads.now c.listed.new.reads) c.from_residual-in_err-write_whole-in-Ok.ensures.1 c.in_ok-jobs.ensures.unfailed

pub returns-in-Err-clause-writes : goal.returns-in-Err-clause-writes
returns-in-Err-clause-writes g c = subst (RunWrites c.args.writes.now c.args.writes.now) (sym c.given_up.ensures) (writes_running c.in-Err.fault c.args.writes.now)

pub returns-in-Err-clause-reads : goal.returns-in-Err-clause-reads
returns-in-Err-clause-reads g c = subst (RunReads c.args.reads.now c.listed.new.reads) (sym c.given_up.ensures)
    (reads_running c.in-Err.fault c.args.reads.now c.listed.new.reads c.in_ok-jobs.ensures.unfailed)

pub returns-in_err-jobs-clause-writes : goal.returns-in_err-jobs-clause-writes
returns-in_err-jobs-clause-writes g c =
    let f = c.in_err-jobs.field-0.0 in
    if_err_from _ f (RunWrites c.args.writes.now c.args.writes.now) c.from_residual-in_err-jobs.ensures.1
    (writes_listing f (g.R.Read.remaining c.args.reader.now) (g.R.Read.remaining c.listed.new.reader) c.args.writes.now c.in_err-jobs.ensures.err)
