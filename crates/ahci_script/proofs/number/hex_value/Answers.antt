use Rattle.std.proofs.Common.{arith, get_or, sym, ◌∙◌}
use Rattle.ahci_script.proofs.HexValueLemmas.{hex_digit_of-small, no_digit, one_more}
use Rattle.ahci_script.proofs.number.hex_value.Goals as goal

pub overflow_mul-value : goal.overflow_mul-value
overflow_mul-value c = omega (arith, one_more c.loop-digit.value c.loop-digit.digit-index 0 c.loop-digit.invariant.0 (omega arith) (omega arith))

pub returns-in_err-hex_digit : goal.returns-in_err-hex_digit
returns-in_err-hex_digit c =
    let none = no_digit c.loop-digit.value c.loop-digit.digit-index c.args.digits.now (omega arith) c.loop-digit.invariant.1 (sym c.hex_digit.ensures ∙ c.in_err-hex_digit.was) in
    c.from_residual.ensures ∙ sym none

pub overflow_add-value : goal.overflow_add-value
overflow_add-value c =
    let small = hex_digit_of-small (get_or c.args.digits.now c.loop-digit.digit-index 0) c.in_ok-hex_digit.field-0 (sym c.hex_digit.ensures ∙ c.in_ok-hex_digit.was) in
    omega (arith, c.from.ensures, one_more c.loop-digit.value c.loop-digit.digit-index c.in_ok-hex_digit.field-0 c.loop-digit.invariant.0 (omega arith) small)
