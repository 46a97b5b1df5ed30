use Rattle.std.proofs.Common.{ap, subst, sym, ◌∙◌}
use Rattle.streams.proofs.FoundLemmas.{if_err_from}
use Rattle.ahci_replay.specs.Fault.{is_of_output}
use Rattle.ahci_replay.specs.Place.{place}
use Rattle.ahci_replay.specs.Transcript.{ReplayedTo}
use Rattle.ahci_replay.specs.declared.script_fault.ScriptFault.TheVariants.{Write}
use Rattle.ahci_replay.proofs.TranscriptLemmas.{all_part_written, all_replayed, fault_part_written, fault_written, output_failed, output_has_failed, stopped_unfailed}
use Rattle.ahci_replay.proofs.TranscriptLemmas.{whole_unfailed, with_flush_same, writes_failed, writes_to}
use Rattle.ahci_replay.proofs.whole_script.replay_script.Goals as goal

pub returns-in_err-send-in-Ok-clause-err : goal.returns-in_err-send-in-Ok-clause-err
returns-in_err-send-in-Ok-clause-err g c =
    if_err_from _ Write (ReplayedTo g.T.AnswerWriter.telling _ _ _ _) c.from_residual.ensures.1
    (all_part_written g.T.AnswerWriter.telling (λ x. place (g.W.Write.contents x.1) x.0.output x.0.session x.0.writes.failed) (g.R.Read.remaining c.args.reader.now) (g.R.Read.remaining c.take_lines.new.reader) _
    (c.args.script.now, c.args.writer.now) (c.take_lines.new.taker, c.take_lines.new.output) c.requires.new c.in-Ok.ensures.ok c.in_err-send-in-Ok.ensures.part)

pub returns-in_ok-send-in-Ok-clause-ok : goal.returns-in_ok-send-in-Ok-clause-ok
returns-in_ok-send-in-Ok-clause-ok g c =
    all_replayed g.T.AnswerWriter.telling (λ x. place (g.W.Write.contents x.1) x.0.output x.0.session x.0.writes.failed) (g.R.Read.remaining c.args.reader.now) (g.R.Read.remaining c.take_lines.new.reader) _
    (c.args.script.now, c.args.writer.now) (c.take_lines.new.taker, c.take_lines.new.output) c.requires.new c.in-Ok.ensures.ok c.in_ok-send-in-Ok.ensures.written

pub returns-then-is_of_output-clause-err : goal.returns-then-is_of_output-clause-err
returns-then-is_of_output-clause-err g c =
    subst (ReplayedTo g.T.AnswerWriter.telling _ _ _ _) (sym c.fault_or-fault.ensures)
    (output_failed g.T.AnswerWriter.telling (λ x. place (g.W.Write.contents x.1) x.0.output x.0.session x.0.writes.failed) c.in-Err.stopped (g.R.Read.remaining c.args.reader.now) (g.R.Read.remaining c.take_lines.new.reader)
    (c.args.script.now, c.args.writer.now) (c.take_lines.new.taker, c.take_lines.new.output) c.requires.new
    (sym (ap is_of_output c.fault_or-fault.ensures) ∙ sym c.is_of_output.ensures ∙ c.if-is_of_output.true) c.in-Err.ensures.err)

pub returns-in_err-send-in-Err-clause-err : goal.returns-in_err-send-in-Err-clause-err
returns-in_err-send-in-Err-clause-err g c =
    if_err_from _ Write (ReplayedTo g.T.AnswerWriter.telling _ _ _ _) c.from_residual-in_err-send-in-Err.ensures.1
    (fault_part_written g.T.AnswerWriter.telling (λ x. place (g.W.Write.contents x.1) x.0.output x.0.session x.0.writes.failed) c.in-Err.stopped (g.R.Read.remaining c.args.reader.now) (g.R.Read.remaining c.take_lines.new.reader) _
    (c.args.script.now, c.args.writer.now) (c.take_lines.new.taker, c.take_lines.new.output) c.requires.new
    (sym (ap is_of_output c.fault_or-fault.ensures) ∙ sym c.is_of_output.ensures ∙ c.if-is_of_output.false) c.in-Err.ensures.err c.in_err-send-in-Err.ensures.part)

pub returns-in_ok-send-in-Err-clause-err : goal.returns-in_ok-send-in-Err-clause-err
returns-in_ok-send-in-Err-clause-err g c =
    subst (ReplayedTo g.T.AnswerWriter.telling _ _ _ _) (sym c.fault_or-fault.ensures)
    (fault_written g.T.AnswerWriter.telling (λ x. place (g.W.Write.contents x.1) x.0.output x.0.session x.0.writes.failed) c.in-Err.stopped (g.R.Read.remaining c.args.reader.now) (g.R.Read.remaining c.take_lines.new.reader) _
    (c.args.script.now, c.args.writer.now) (c.take_lines.new.taker, c.take_lines.new.output) c.requires.new
    (sym (ap is_of_output c.fault_or-fault.ensures) ∙ sym c.is_of_output.ensures ∙ c.if-is_of_output.false) c.in-Err.ensures.err c.in_ok-send-in-Err.ensures.written)

pub returns-in_ok-send-in-Ok-clause-flushed : goal.returns-in_ok-send-in-Ok-clause-flushed
returns-in_ok-send-in-Ok-clause-flushed g c =
    c.in_ok-send-in-Ok.ensures.flushed ∙ with_flush_same c.args.script.now.writes c.take_lines.new.taker.writes (whole_unfailed g.T.AnswerWriter.telling (λ x. place (g.W.Write.contents x.1) x.0.output x.0.session x.0.writes.failed) (g.R.Read.remaining c.args.reader.now) (g.R.Read.remaining c.take_lines.new.reader)
    (c.args.script.now, c.args.writer.now) (c.take_lines.new.taker, c.take_lines.new.output) c.in-Ok.ensures.ok)

pub returns-then-is_of_output-clause-writes : goal.returns-then-is_of_output-clause-writes
returns-then-is_of_output-clause-writes g c =
    writes_failed _ c.args.script.now.writes c.take_lines.new.taker.writes (sym c.is_of_output.ensures ∙ c.if-is_of_output.true)
    (output_has_failed g.T.AnswerWriter.telling (λ x. place (g.W.Write.contents x.1) x.0.output x.0.session x.0.writes.failed) c.in-Err.stopped (g.R.Read.remaining c.args.reader.now) (g.R.Read.remaining c.take_lines.new.reader)
    (c.args.script.now, c.args.writer.now) (c.take_lines.new.taker, c.take_lines.new.output)
    (sym (ap is_of_output c.fault_or-fault.ensures) ∙ sym c.is_of_output.ensures ∙ c.if-is_of_output.true) c.in-Err.ensures.err)

pub returns-in_ok-send-in-Err-clause-writes : goal.returns-in_ok-send-in-Err-clause-writes
returns-in_ok-send-in-Err-clause-writes g c =
    writes_to _ c.args.script.now.writes c.take_lines.new.taker.writes _ (sym c.is_of_output.ensures ∙ c.if-is_of_output.false)
    (stopped_unfailed g.T.AnswerWriter.telling (λ x. place (g.W.Write.contents x.1) x.0.output x.0.session x.0.writes.failed) c.in-Err.stopped (g.R.Read.remaining c.args.reader.now) (g.R.Read.remaining c.take_lines.new.reader)
    (c.args.script.now, c.args.writer.now) (c.take_lines.new.taker, c.take_lines.new.output)
    (sym (ap is_of_output c.fault_or-fault.ensures) ∙ sym c.is_of_output.ensures ∙ c.if-is_of_output.false) c.in-Err.ensures.err) c.in_ok-send-in-Err.ensures.flushed
