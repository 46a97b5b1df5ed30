-- Those of one more.
use Rattle.std.proofs.Common.{◌++◌, ap, ◌∙◌}
use Rattle.ahci_trace.proofs.TextLemmas.{more_text}
use Rattle.ahci_trace.proofs.note.push_notes.Goals as goal

pub loop-one-preserved : goal.loop-one-preserved
loop-one-preserved g c =
    more_text g.T.Note.note _ _ _ c.args.each.now c.loop-one.one-index c.one-item.result c.loop-one-test.true c.loop-one.invariant
    (c.in_ok-push_to.ensures ∙ ap (λ one. c.loop-one.text.bytes ++ g.T.Note.note one) c.one-item.is)
