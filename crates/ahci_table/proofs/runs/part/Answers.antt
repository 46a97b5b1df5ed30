-- The part ends within the bytes.
use Rattle.std.proofs.Common.{arith}
use Rattle.ahci_table.proofs.RunLemmas.{part_ends}
use Rattle.ahci_table.proofs.runs.part.Goals as goal

pub overflow_add-start : goal.overflow_add-start
overflow_add-start c =
    let first = c.in-Some.ensures.item.3 in
    let ends = part_ends c.args.pieces.now c.args.bytes.now c.in-Some.first.now c.from.result c.args.offset c.args.len c.requires.inside first.0 (first.1 c.in-Some.first.now) c.from.ensures c.if-not-are_one_run.ensures c.requires.within in
    omega arith

pub overflow_add-result : goal.overflow_add-result
overflow_add-result c =
    let first = c.in-Some.ensures.item.3 in
    let ends = part_ends c.args.pieces.now c.args.bytes.now c.in-Some.first.now c.from.result c.args.offset c.args.len c.requires.inside first.0 (first.1 c.in-Some.first.now) c.from.ensures c.if-not-are_one_run.ensures c.requires.within in
    omega arith

pub slice_bounds-result-end : goal.slice_bounds-result-end
slice_bounds-result-end c =
    let first = c.in-Some.ensures.item.3 in
    let ends = part_ends c.args.pieces.now c.args.bytes.now c.in-Some.first.now c.from.result c.args.offset c.args.len c.requires.inside first.0 (first.1 c.in-Some.first.now) c.from.ensures c.if-not-are_one_run.ensures c.requires.within in
    omega arith
