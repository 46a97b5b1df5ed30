use Rattle.std.proofs.Common.{rules, arith, sym}
use Rattle.ahci_script.proofs.DecimalLemmas.{overflows, whole_value}
use Rattle.ahci_script.proofs.number.value.Goals as goal

pub returns-in_err-value : goal.returns-in_err-value
returns-in_err-value c =
    let none = overflows c.loop-digit.value c.loop-digit.digit-index c.args.digits.now (omega arith) c.loop-digit.invariant.1 (sym c.in_err-value.ensures) in
    search (rules, none)

pub returns : goal.returns
returns c =
    let whole = whole_value c.loop-digit.value c.loop-digit.digit-index c.args.digits.now (omega arith) c.loop-digit.invariant.1 c.loop-digit.invariant.0 in
    sym whole
