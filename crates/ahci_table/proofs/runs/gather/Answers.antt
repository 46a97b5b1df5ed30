-- One run more, and all runs.
use Rattle.std.proofs.Common.{ap, ◌∙◌, refl, arith, take, drop}
use Rattle.ahci_table.specs.Text.{joined}
use Rattle.ahci_table.proofs.GatherLemmas.{gathers_more, gathers_all}
use Rattle.ahci_table.proofs.runs.gather.Goals as goal

pub loop-piece-preserved : goal.loop-piece-preserved
loop-piece-preserved c =
    gathers_more c.args.pieces.now c.args.bytes.now c.args.offset c.loop-piece.piece-index c.loop-piece.skip
    c.loop-piece.done c.min-lead.result c.min-count.result c.loop-piece.out c.copy_from_slice.new.self _ _
    c.loop-piece.invariant c.loop-piece-test.true refl (c.requires.inside c.loop-piece.piece-index _ c.loop-piece-test.true) c.min-lead.ensures c.min-count.ensures c.copy_from_slice.ensures.after

pub returns : goal.returns
returns c =
    let all = gathers_all c.args.pieces.now c.args.bytes.now c.args.offset c.loop-piece.piece-index c.loop-piece.skip c.loop-piece.done c.loop-piece.out
    c.loop-piece.invariant c.loop-piece-test.false (let w = c.requires.within in let a = c.loop-piece.auto.out in omega arith) in
    all ∙ ap (λ n. take n (drop c.args.offset (joined c.args.pieces.now c.args.bytes.now))) c.loop-piece.auto.out
