use Rattle.std.proofs.Common.{◌<◌, ◌∙◌, arith, get_or, length, rules, sym}
use Rattle.ahci_script.proofs.HexValueLemmas.{hex_digit_of-small, one_more}
use Rattle.ahci_script.proofs.ShortLemmas.{hex_before, hex_last}
use Rattle.ahci_script.proofs.short_number.short_hexadecimal.Goals as goal

pub overflow_mul-value : goal.overflow_mul-value
overflow_mul-value c =
    omega (arith, one_more c.loop-at.value c.loop-at.at 0 c.loop-at.invariant.1 c.if-at-lt-HEXADECIMAL.true (omega arith))

pub overflow_add-value : goal.overflow_add-value
overflow_add-value c =
    let small = hex_digit_of-small (get_or c.args.text.now c.loop-at.at 0) c.in-Some.digit (sym c.hex_digit.ensures ∙ c.in-Some.is) in
    omega (arith, c.from.ensures, one_more c.loop-at.value c.loop-at.at c.in-Some.digit c.loop-at.invariant.1 c.if-at-lt-HEXADECIMAL.true small)

pub returns-in-None : goal.returns-in-None
returns-in-None c =
    let spelled = hex_before c.loop-at.value c.loop-at.at c.args.text.now (omega arith) c.if-b-eq32.true c.if-at-gt0.true c.loop-at.invariant.0 c.loop-at.invariant.2 in
    rw c.after.ensures spelled

pub returns : goal.returns
returns c =
    let some : 0 < length c.args.text.now = search rules in
    let spelled = hex_last c.loop-at.value c.loop-at.at c.args.text.now (omega arith) some c.loop-at.invariant.0 c.loop-at.invariant.2 in
    rw c.none.ensures spelled
