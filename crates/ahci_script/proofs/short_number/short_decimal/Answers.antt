use Rattle.std.proofs.Common.{◌<◌, ◌≤◌, arith, get_or, length, rules}
use Rattle.std.proofs.lemmas.Bool.Decides.{nat_tests}
use Rattle.ahci_script.proofs.ShortLemmas.{decimal_before, decimal_last, digit_fits}
use Rattle.ahci_script.proofs.short_number.short_decimal.Goals as goal

pub overflow_mul-value : goal.overflow_mul-value
overflow_mul-value c =
    omega (arith, digit_fits c.loop-at.value c.loop-at.at 48 c.loop-at.invariant.1 c.if-at-lt-DECIMAL.true (omega arith))

pub overflow_add-value : goal.overflow_add-value
overflow_add-value c =
    let high : get_or c.args.text.now c.loop-at.at 0 ≤ 57 = grind (arith, nat_tests, c.is_ascii_digit.ensures.value, c.if-is_ascii_digit.true) in
    omega (arith, c.from.ensures, digit_fits c.loop-at.value c.loop-at.at (get_or c.args.text.now c.loop-at.at 0) c.loop-at.invariant.1 c.if-at-lt-DECIMAL.true high)

pub returns-then-at-gt0 : goal.returns-then-at-gt0
returns-then-at-gt0 c =
    let spelled = decimal_before c.loop-at.value c.loop-at.at c.args.text.now (omega arith) c.if-b-eq32.true c.if-at-gt0.true c.loop-at.invariant.0 c.loop-at.invariant.1 c.loop-at.invariant.2 in
    rw c.after.ensures spelled

pub returns : goal.returns
returns c =
    let some : 0 < length c.args.text.now = search rules in
    let spelled = decimal_last c.loop-at.value c.loop-at.at c.args.text.now (omega arith) some c.loop-at.invariant.0 c.loop-at.invariant.1 c.loop-at.invariant.2 in
    rw c.none.ensures spelled
