use Rattle.std.proofs.Common.{arith, ◌∙◌, ap}
use Rattle.ncq_core.specs.Identify.{word_bytes}
use Rattle.ncq_core.proofs.PageLemmas.{written_none, written_more, written_all}
use Rattle.ncq_core.proofs.disk.identify.identify_page.Goals as goal

pub loop-number-init : goal.loop-number-init
loop-number-init c = written_none c.args.sectors c.args.depth

pub loop-number-preserved : goal.loop-number-preserved
loop-number-preserved c =
    written_more c.args.sectors c.args.depth c.loop-number.number _ c.loop-number.page c.copy_from_slice.new.self (omega arith) c.loop-number.invariant
    (c.copy_from_slice.ensures.after ∙ c.to_le_bytes-bytes.ensures ∙ ap word_bytes c.identify_word.ensures)

pub returns : goal.returns
returns c = c.loop-number.invariant ∙ written_all c.args.sectors c.args.depth c.loop-number.number (omega arith)
