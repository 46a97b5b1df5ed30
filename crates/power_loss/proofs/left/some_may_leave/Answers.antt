-- no tag below 32 has such a write
use Rattle.std.proofs.Common.{rules, ◌<◌}
use Rattle.power_loss.proofs.left.some_may_leave.Goals as goal

pub returns : goal.returns
returns g c =
    ((λ f. cc), (λ m. absurd (c.loop-tag.invariant m.tag (let low : m.tag < c.loop-tag.tag = search rules in low) m.leaves)))
