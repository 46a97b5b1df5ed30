use Rattle.std.proofs.Common.{◌+◌, ap, drop, refl, sym, ◌∙◌}
use Rattle.ahci_check.specs.Limits.{far_tag}
use Rattle.ahci_check.proofs.TagLemmas.{far-here, far-later, far-none}
use Rattle.ahci_check.proofs.tags.far_tag.Goals as goal

pub returns-then-is_some : goal.returns-then-is_some
returns-then-is_some c =
    sym (far-here c.args.depth c.loop-tag.left.now c.args.tags.now c.loop-tag.tag-index _ c.tag_excess-excess.result c.loop-tag-test.true refl c.tag_excess-excess.ensures (sym c.is_some.ensures ∙ c.if-is_some.true))
    ∙ c.loop-tag.invariant

pub loop-tag-preserved : goal.loop-tag-preserved
loop-tag-preserved c =
    ap (λ w. far_tag c.args.depth w (drop (c.loop-tag.tag-index + 1) c.args.tags.now)) c.after_first-left.ensures
    ∙ sym (far-later c.args.depth c.loop-tag.left.now c.args.tags.now c.loop-tag.tag-index _ c.tag_excess-excess.result c.loop-tag-test.true refl c.tag_excess-excess.ensures (sym c.is_some.ensures ∙ c.if-is_some.false))
    ∙ c.loop-tag.invariant

pub returns : goal.returns
returns c = sym (far-none c.args.depth c.loop-tag.left.now c.args.tags.now c.loop-tag.tag-index c.loop-tag-test.false) ∙ c.loop-tag.invariant
