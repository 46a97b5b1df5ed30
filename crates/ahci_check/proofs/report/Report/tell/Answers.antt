use Rattle.std.proofs.Common.{ap, refl, subst, sym}
use Rattle.streams.proofs.FoundLemmas.{if_err_from}
use Rattle.ahci_check.specs.Reports.{Desk, FailsTelling, stand}
use Rattle.ahci_check.specs.declared.check_fault.CheckFault.TheVariants.{OutOfMemory}
use Rattle.ahci_check.proofs.ReportLemmas.{put_failed, put_sent, waits}
use Rattle.ahci_check.proofs.report.Report.tell.Goals as goal

pub returns-in_err-put-clause-err : goal.returns-in_err-put-clause-err
returns-in_err-put-clause-err g c =
    let p = stand (g.W.Write.contents c.args.writer.now) c.args.self.now in
    let q = stand (g.W.Write.contents c.args.writer.now) c.put.new.self in
    let same = c.in_err-put.ensures.err in
    if_err_from _ OutOfMemory (λ fault. FailsTelling p c.args.complaint fault q) c.from_residual.ensures.1 (refl, ap (λ (x : Desk). x.waiting) same, ap (λ (x : Desk). x.writes) same)

pub returns-then-not-is_full-clause-ok : goal.returns-then-not-is_full-clause-ok
returns-then-not-is_full-clause-ok g c = waits (g.W.Write.contents c.args.writer.now) c.args.self.now c.put.new.self c.args.complaint c.args.next c.in_ok-put.ensures.ok

pub returns-in_err-send-clause-err : goal.returns-in_err-send-clause-err
returns-in_err-send-clause-err g c =
    let p = stand (g.W.Write.contents c.args.writer.now) c.args.self.now in
    let q = stand (g.W.Write.contents c.send.new.writer) c.send.new.self in
    let f = c.in_err-send.field-0.0 in
    if_err_from _ f (λ fault. FailsTelling p c.args.complaint fault q) c.from_residual-in_err-send.ensures.1
    (subst (λ fault. FailsTelling p c.args.complaint fault q) (sym c.in_err-send.ensures.fault) (put_failed (g.W.Write.contents c.args.writer.now) (g.W.Write.contents c.send.new.writer) c.args.self.now c.put.new.self c.send.new.self c.args.complaint c.args.next c.in_ok-put.ensures.ok c.in_err-send.ensures.part c.in_err-send.ensures.failed))

pub returns-clause-ok : goal.returns-clause-ok
returns-clause-ok g c =
    let sent = c.in_ok-send.ensures in
    put_sent (g.W.Write.contents c.args.writer.now) (g.W.Write.contents c.send.new.writer) c.args.self.now c.put.new.self c.send.new.self c.args.complaint c.args.next c.in_ok-put.ensures.ok sent.written sent.sent
    c.send.ensures.form c.send.ensures.judge c.send.ensures.found sent.flushed
