use Rattle.std.proofs.Common.{◌≡◌, ◌∙◌, ◌++◌, ◌≤◌, ap, sym, length, arith}
use Rattle.std.proofs.lemmas.List.{take_all, length-take}
use Rattle.test_helpers.proofs.table_step.list_of.Goals as goal
use Rattle.test_helpers.proofs.table_step.list_of.Goals.{then-tags-lt32, else-tags-lt32}

pub unreachable-requires : goal.unreachable-requires
unreachable-requires c =
    let few : length c.if-tags-lt32.first.now ≤ 32 = elim c.if-tags-lt32.branch [
      | then-tags-lt32 w ↦ let same = ap (λ r. length r.now) w.first-is in let less = w.if-tags-lt32.true in omega arith
      | else-tags-lt32 w ↦ let same = ap (λ r. length r.now) w.first-is ∙ length-take 32 c.args.tags.now in omega arith
    ] in
    let none : length c.new-list.result.items ≡ 0 = ap length c.new-list.ensures in
    let fits = c.in-Err.ensures.variant.1 (omega arith) in absurd cc

pub returns : goal.returns
returns c =
    c.in-Ok.ensures.ok ∙ ap (λ l. l ++ c.if-tags-lt32.first.now) c.new-list.ensures ∙ elim c.if-tags-lt32.branch [
      | then-tags-lt32 w ↦ ap (λ r. r.now) w.first-is ∙ sym (take_all 32 c.args.tags.now (omega arith))
      | else-tags-lt32 w ↦ ap (λ r. r.now) w.first-is
    ]
