-- The digits of one byte more.
use Rattle.std.proofs.Common.{◌++◌, ◌<◌, ap, subst, ◌∙◌}
use Rattle.streams.specs.Text.{hex_of}
use Rattle.ahci_script.proofs.PrintedLemmas.{hex_grown}
use Rattle.ahci_script.proofs.print.push_spelled.Goals as goal

pub loop-index-preserved : goal.loop-index-preserved
loop-index-preserved g c =
    hex_grown _ _ _ c.args.bytes.now c.loop-index.index 0 (subst (λ end. c.loop-index.index < end) c.len-index-end.ensures c.loop-index-test.true) c.loop-index.invariant
    (c.in_ok-push.ensures.ok ∙ ap (λ t. c.loop-index.text.bytes ++ t) (c.two_digits.ensures ∙ ap (hex_of 2) c.byte.ensures))
