use Rattle.std.proofs.Common.{◌∷◌, ◌∙◌, ap, arith}
use Rattle.ncq_journal.specs.EventKind.{entry_of_kind, journal_of}
use Rattle.ncq_journal.specs.TagState.{no_state, state_after, state_of}
use Rattle.ncq_journal.proofs.FilledLemmas.{one_more}
use Rattle.ncq_journal.proofs.KindLemmas.{state_next}
use Rattle.ncq_journal.proofs.tag_state.states_after.Goals as goal

pub loop-tag-preserved : goal.loop-tag-preserved
loop-tag-preserved g c =
    let past = journal_of g.E.NamesEvent.event c.args.past.now in
    let entry = entry_of_kind c.args.kind in
    one_more no_state (state_of (entry ∷ past)) c.loop-tag.next c.loop-tag.tag c.from.result c.state_after.result c.from.ensures (omega arith) c.loop-tag.invariant
    (c.state_after.ensures ∙ ap (λ k. state_after c.loop-tag.tag k entry) c.state_of.ensures ∙ state_next past c.loop-tag.tag entry)
