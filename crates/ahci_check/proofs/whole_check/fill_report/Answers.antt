use Rattle.std.proofs.Common.{ap, subst, sym, ◌∙◌}
use Rattle.streams.proofs.FoundLemmas.{if_err_from}
use Rattle.ahci_check.specs.Faults.{WritesTo, is_of_output}
use Rattle.ahci_check.specs.Reports.{EndsCheck, IsChecked, stand}
use Rattle.ahci_replay.proofs.TranscriptLemmas.{with_flush_same}
use Rattle.ahci_check.proofs.ReportLemmas.{all_checked, all_part_checked, fault_checked, fault_part_checked, output_failed, output_has_failed, stopped_unfailed, whole_unfailed, writes_to}
use Rattle.ahci_check.proofs.whole_check.fill_report.Goals as goal

pub returns-in_err-send-in-Ok-clause-err : goal.returns-in_err-send-in-Ok-clause-err
returns-in_err-send-in-Ok-clause-err g c =
    let f = c.in_err-send-in-Ok.field-0.0 in
    if_err_from _ f (EndsCheck _ _ _ _ _ _) c.from_residual.ensures.1
    (subst (EndsCheck _ _ _ _ _ _) (sym c.in_err-send-in-Ok.ensures.fault) (all_part_checked (λ x. stand (g.W.Write.contents x.1) x.0) (g.R.Read.remaining c.args.reader.now) (g.R.Read.remaining c.take_lines.new.reader) _
    (c.args.report.now, c.args.writer.now) (c.take_lines.new.taker, c.take_lines.new.output) c.requires.new c.in-Ok.ensures.ok c.in_err-send-in-Ok.ensures.part))

pub returns-in_ok-send-in-Ok-clause-ok : goal.returns-in_ok-send-in-Ok-clause-ok
returns-in_ok-send-in-Ok-clause-ok g c =
    subst (IsChecked _ _ _ _ _ _) (sym c.send.ensures.found)
    (all_checked (λ x. stand (g.W.Write.contents x.1) x.0) (g.R.Read.remaining c.args.reader.now) (g.R.Read.remaining c.take_lines.new.reader) _
    (c.args.report.now, c.args.writer.now) (c.take_lines.new.taker, c.take_lines.new.output) c.requires.new c.in-Ok.ensures.ok c.in_ok-send-in-Ok.ensures.written)

pub returns-then-is_of_output-clause-err : goal.returns-then-is_of_output-clause-err
returns-then-is_of_output-clause-err g c =
    subst (EndsCheck _ _ _ _ _ _) (sym c.fault_or-fault.ensures)
    (output_failed (λ x. stand (g.W.Write.contents x.1) x.0) c.in-Err.stopped (g.R.Read.remaining c.args.reader.now) (g.R.Read.remaining c.take_lines.new.reader)
    (c.args.report.now, c.args.writer.now) (c.take_lines.new.taker, c.take_lines.new.output) c.requires.new
    (sym (ap is_of_output c.fault_or-fault.ensures) ∙ sym c.is_of_output.ensures ∙ c.if-is_of_output.true) c.in-Err.ensures.err)

pub returns-in_err-send-in-Err-clause-err : goal.returns-in_err-send-in-Err-clause-err
returns-in_err-send-in-Err-clause-err g c =
    let f = c.in_err-send-in-Err.field-0.0 in
    if_err_from _ f (EndsCheck _ _ _ _ _ _) c.from_residual-in_err-send-in-Err.ensures.1
    (subst (EndsCheck _ _ _ _ _ _) (sym c.in_err-send-in-Err.ensures.fault) (fault_part_checked (λ x. stand (g.W.Write.contents x.1) x.0) c.in-Err.stopped (g.R.Read.remaining c.args.reader.now) (g.R.Read.remaining c.take_lines.new.reader) _
    (c.args.report.now, c.args.writer.now) (c.take_lines.new.taker, c.take_lines.new.output) c.requires.new
    (sym (ap is_of_output c.fault_or-fault.ensures) ∙ sym c.is_of_output.ensures ∙ c.if-is_of_output.false) c.in-Err.ensures.err c.in_err-send-in-Err.ensures.part))

pub returns-in_ok-send-in-Err-clause-err : goal.returns-in_ok-send-in-Err-clause-err
returns-in_ok-send-in-Err-clause-err g c =
    subst (EndsCheck _ _ _ _ _ _) (sym c.fault_or-fault.ensures)
    (fault_checked (λ x. stand (g.W.Write.contents x.1) x.0) c.in-Err.stopped (g.R.Read.remaining c.args.reader.now) (g.R.Read.remaining c.take_lines.new.reader) _
    (c.args.report.now, c.args.writer.now) (c.take_lines.new.taker, c.take_lines.new.output) c.requires.new
    (sym (ap is_of_output c.fault_or-fault.ensures) ∙ sym c.is_of_output.ensures ∙ c.if-is_of_output.false) c.in-Err.ensures.err c.in_ok-send-in-Err.ensures.written)

pub returns-in_ok-send-in-Ok-clause-flushed : goal.returns-in_ok-send-in-Ok-clause-flushed
returns-in_ok-send-in-Ok-clause-flushed g c =
    c.in_ok-send-in-Ok.ensures.flushed ∙ with_flush_same c.args.report.now.writes c.take_lines.new.taker.writes
    (whole_unfailed (λ x. stand (g.W.Write.contents x.1) x.0) (g.R.Read.remaining c.args.reader.now) (g.R.Read.remaining c.take_lines.new.reader)
    (c.args.report.now, c.args.writer.now) (c.take_lines.new.taker, c.take_lines.new.output) c.in-Ok.ensures.ok)

pub returns-then-is_of_output-clause-writes : goal.returns-then-is_of_output-clause-writes
returns-then-is_of_output-clause-writes g c =
    subst (WritesTo c.args.report.now.writes c.take_lines.new.taker.writes) (sym c.fault_or-fault.ensures)
    (output_has_failed (λ x. stand (g.W.Write.contents x.1) x.0) c.in-Err.stopped (g.R.Read.remaining c.args.reader.now) (g.R.Read.remaining c.take_lines.new.reader)
    (c.args.report.now, c.args.writer.now) (c.take_lines.new.taker, c.take_lines.new.output) c.args.report.now.writes
    (sym (ap is_of_output c.fault_or-fault.ensures) ∙ sym c.is_of_output.ensures ∙ c.if-is_of_output.true) c.in-Err.ensures.err)

pub returns-in_ok-send-in-Err-clause-writes : goal.returns-in_ok-send-in-Err-clause-writes
returns-in_ok-send-in-Err-clause-writes g c =
    writes_to _ c.args.report.now.writes c.take_lines.new.taker.writes _ (sym c.is_of_output.ensures ∙ c.if-is_of_output.false)
    (stopped_unfailed (λ x. stand (g.W.Write.contents x.1) x.0) c.in-Err.stopped (g.R.Read.remaining c.args.reader.now) (g.R.Read.remaining c.take_lines.new.reader)
    (c.args.report.now, c.args.writer.now) (c.take_lines.new.taker, c.take_lines.new.output)
    (sym (ap is_of_output c.fault_or-fault.ensures) ∙ sym c.is_of_output.ensures ∙ c.if-is_of_output.false) c.in-Err.ensures.err) c.in_ok-send-in-Err.ensures.flushed
