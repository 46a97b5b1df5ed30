-- The digits of one byte more.
use Rattle.std.proofs.Common.{◌++◌, ap, ◌∙◌}
use Rattle.ahci_script.proofs.PrintedLemmas.{hex_grown}
use Rattle.ahci_script.proofs.print.push_hex.Goals as goal

pub loop-byte-preserved : goal.loop-byte-preserved
loop-byte-preserved g c =
    hex_grown _ _ _ c.args.bytes.now c.loop-byte.byte-index _ c.loop-byte-test.true c.loop-byte.invariant
    (c.in_ok-push.ensures.ok ∙ ap (λ t. c.loop-byte.text.bytes ++ t) c.two_digits.ensures)
