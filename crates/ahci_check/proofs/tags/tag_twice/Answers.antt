use Rattle.std.proofs.Common.{◌+◌, ap, drop, refl, sym, take, ◌∙◌}
use Rattle.ahci_check.specs.Limits.{twice_among}
use Rattle.ahci_check.proofs.TagLemmas.{twice-here, twice-later, twice-none}
use Rattle.ahci_check.proofs.tags.tag_twice.Goals as goal

pub returns-then-has_tag : goal.returns-then-has_tag
returns-then-has_tag c =
    c.excess_at.ensures ∙ sym (twice-here c.loop-index.left.now c.args.tags.now c.loop-index.index _ c.has_tag.result c.loop-index-test.true refl c.has_tag.ensures c.if-has_tag.true)
    ∙ c.loop-index.invariant

pub loop-index-preserved : goal.loop-index-preserved
loop-index-preserved c =
    ap (λ w. twice_among (take (c.loop-index.index + 1) c.args.tags.now) w (drop (c.loop-index.index + 1) c.args.tags.now)) c.after_first-left.ensures
    ∙ sym (twice-later c.loop-index.left.now c.args.tags.now c.loop-index.index _ c.has_tag.result c.loop-index-test.true refl c.has_tag.ensures c.if-has_tag.false) ∙ c.loop-index.invariant

pub returns : goal.returns
returns c = sym (twice-none (take c.loop-index.index c.args.tags.now) c.loop-index.left.now c.args.tags.now c.loop-index.index c.loop-index-test.false) ∙ c.loop-index.invariant
