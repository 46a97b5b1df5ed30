-- One tag more, and after the last tag each of the 32 is looked at.
use Rattle.std.proofs.Common.{◌≡◌, ℕ, sym, ap, ◌∙◌, arith}
use Rattle.word_bits.specs.Places.{bits, with_place}
use Rattle.ncq_journal.specs.History.{history_of}
use Rattle.ncq_journal.specs.Phase.{phase}
use Rattle.ncq_journal.proofs.SetLemmas.{among, among_all, among_none, among_with, among_without}
use Rattle.ncq_journal.proofs.tags.tags_in.Goals as goal
use Rattle.ncq_journal.proofs.tags.tags_in.Goals.{then-is_one, else-is_one}

pub loop-tag-init : goal.loop-tag-init
loop-tag-init g c q tells = among_none (λ t. q (phase (history_of c.args.events.now) t))

pub loop-tag-preserved : goal.loop-tag-preserved
loop-tag-preserved g c q tells =
    let tag = c.loop-tag.tag in
    let p = λ (t : ℕ). q (phase (history_of c.args.events.now) t) in
    let own : p tag ≡ c.is_one.result = ap q (sym c.phase_of.ensures) ∙ sym (tells _ _ c.is_one.ensures) in
    elim c.if-is_one.branch [
      | then-is_one w ↦ ap bits w.word-is ∙ w.with_bit-word.ensures ∙ ap (λ s. with_place s tag) (c.loop-tag.invariant q tells)
          ∙ among_with p tag (omega arith) (own ∙ w.if-is_one.true)
      | else-is_one w ↦ ap bits w.word-is ∙ c.loop-tag.invariant q tells ∙ among_without p tag (own ∙ w.if-is_one.false)
    ]

pub returns : goal.returns
returns g c q tells =
    let p = λ (t : ℕ). q (phase (history_of c.args.events.now) t) in
    let all : c.loop-tag.tag ≡ 32 = omega arith in
    c.loop-tag.invariant q tells ∙ ap (among p) all ∙ among_all p
