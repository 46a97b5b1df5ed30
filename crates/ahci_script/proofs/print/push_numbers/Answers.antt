-- One number more.
use Rattle.ahci_script.proofs.PrintedLemmas.{numbers_grown}
use Rattle.ahci_script.proofs.print.push_numbers.Goals as goal

pub loop-number-preserved : goal.loop-number-preserved
loop-number-preserved g c =
    numbers_grown _ _ _ c.args.numbers.now c.loop-number.number-index _ c.loop-number-test.true c.loop-number.invariant c.in_ok-push_number.ensures
