use Rattle.std.proofs.Common.{◌∙◌, ap, length, arith}
use Rattle.ahci_driver.proofs.SettlingLemmas.{issued_from, issued_within}
use Rattle.ahci_driver.proofs.settlement.unclaimed.Goals as goal

pub overflow_sub-number : goal.overflow_sub-number
overflow_sub-number g c = c.loop-number.auto.number

pub bounds-claims-number : goal.bounds-claims-number
bounds-claims-number g c =
    let count = c.requires.count in
    let past = ap length c.journal-journal.ensures.past in
    let end = c.end-number-end.ensures in
    let from = c.first-first.ensures.first in
    let high = c.loop-number-test.true in
    let low = c.loop-number.auto.number in omega arith

pub loop-number-init : goal.loop-number-init
loop-number-init g c = λ m low some.
    let from = issued_from c.args.port.now m some in
    let first = c.first-first.ensures.first ∙ c.journal-journal.ensures.first in absurd (omega arith)

pub returns : goal.returns
returns g c = λ n some.
    let within = issued_within c.args.port.now n some in
    let first = c.journal-journal.ensures.first in
    let past = ap length c.journal-journal.ensures.past in
    let end = c.end-number-end.ensures in
    let stop = c.loop-number-test.false in
    c.loop-number.invariant n (omega arith) some
