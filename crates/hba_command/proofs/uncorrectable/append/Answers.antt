-- One more LBA.
use Rattle.std.proofs.Common.{◌≡◌, ◌∙◌, ◌+◌, [], ◌∷◌, ◌++◌, ap, length, sym, arith}
use Rattle.std.proofs.lemmas.List.{append_assoc, length-append}
use Rattle.std.specs.List.{range_with_len}
use Rattle.hba_command.proofs.UncorrectableLemmas.{one_more}
use Rattle.hba_command.proofs.uncorrectable.append.Goals as goal

pub loop-index-preserved : goal.loop-index-preserved
loop-index-preserved c =
    let lba = c.args.first + c.from.result in
    let same : c.args.first + c.loop-index.index ≡ lba = (let e = c.from.ensures in omega arith) in
    record {
      items =
          c.push.ensures.items ∙ ap (λ l. l ++ lba ∷ []) c.loop-index.invariant.items
          ∙ append_assoc c.args.marks.now.items (range_with_len c.args.first c.loop-index.index) (lba ∷ [])
          ∙ ap (λ l. c.args.marks.now.items ++ l) (sym (one_more c.args.first c.loop-index.index lba same));
      room =
          (let all = ap length c.push.ensures.items ∙ length-append c.loop-index.marks.items (lba ∷ []) in
          let r = c.loop-index.invariant.room in omega arith);
    }
