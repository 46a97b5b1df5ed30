-- One line more.
use Rattle.std.proofs.Common.{length, refl, arith}
use Rattle.ncq_journal.specs.Numbering.{number_of}
use Rattle.ahci_draw.proofs.PieceLemmas.{all_lines, next_line}
use Rattle.ahci_draw.proofs.entries.push_entries.Goals as goal

pub loop-number-preserved : goal.loop-number-preserved
loop-number-preserved g c =
    let low = c.loop-number-test.true in
    let end = c.end-number-end.ensures in
    next_line c.args.journal.now.first c.args.journal.now.past _ _ _ c.loop-number.tags _ c.loop-number.number
    (number_of c.args.journal.now.first (length c.args.journal.now.past)) _ (omega (arith, low, end)) refl c.loop-number.invariant
    c.in_ok-push_entry.ensures.text c.in_ok-push_entry.ensures.tags

pub returns : goal.returns
returns g c =
    let high = c.loop-number-test.false in
    let end = c.end-number-end.ensures in
    all_lines c.args.journal.now.first c.args.journal.now.past _ _ c.loop-number.tags c.loop-number.number _ (omega (arith, high, end)) c.loop-number.invariant
