use Rattle.std.proofs.Common.{◌≡◌, ◌∙◌, ℕ, zero, suc, ◌+◌, Bool, true, false, cond, [], ◌∷◌, ◌++◌, length, ap, sym, arith}
use Rattle.std.specs.List.{filter, range_with_len}
use Rattle.std.proofs.lemmas.List.{append-nil, length-append}
use Rattle.std.proofs.lemmas.List.Elements.{filter-append}
use Rattle.word_bits.specs.Places.{bits, has_place}
use Rattle.ahci_driver.proofs.chooser.tags_in.Goals as goal
use Rattle.ahci_driver.proofs.chooser.tags_in.Goals.{then-is_set, else-is_set}

-- one number more
counted : (a n m : ℕ) → a + n ≡ m → range_with_len a (suc n) ≡ range_with_len a n ++ m ∷ []
counted a zero m same = ap (λ x. x ∷ []) (omega arith)
counted a (suc n) m same = ap (λ l. a ∷ l) (counted (a + 1) n m (omega arith))

-- the tags of a set up to one more
up_to : (p : ℕ → Bool) (n : ℕ) → filter p (range_with_len 0 (n + 1)) ≡ filter p (range_with_len 0 n) ++ cond (p n) (n ∷ []) []
up_to p n =
    let next : n + 1 ≡ suc n = omega arith in
    ap (λ k. filter p (range_with_len 0 k)) next ∙ ap (filter p) (counted 0 n n (omega arith)) ∙ filter-append p (range_with_len 0 n) (n ∷ [])

pub loop-tag-preserved : goal.loop-tag-preserved
loop-tag-preserved c =
    let p = has_place (bits c.args.word) in
    let n = c.loop-tag.tag in
    elim c.if-is_set.branch [
      | then-is_set w ↦
          let there : p n ≡ true = sym c.is_set.ensures ∙ w.if-is_set.true in
          let pushed = ap (λ v. v.items) w.tags-is ∙ w.push.ensures.items in
          record {
            items = pushed ∙ ap (λ l. l ++ n ∷ []) c.loop-tag.invariant.items ∙ sym (up_to p n ∙ ap (λ b. filter p (range_with_len 0 n) ++ cond b (n ∷ []) []) there);
            room = (let all = ap length pushed ∙ length-append c.loop-tag.tags.items (n ∷ []) in let r = c.loop-tag.invariant.room in omega arith);
          }
      | else-is_set w ↦
          let out : p n ≡ false = sym c.is_set.ensures ∙ w.if-is_set.false in
          let same = ap (λ v. v.items) w.tags-is in
          record {
            items = same ∙ c.loop-tag.invariant.items ∙ sym (up_to p n ∙ ap (λ b. filter p (range_with_len 0 n) ++ cond b (n ∷ []) []) out ∙ append-nil (filter p (range_with_len 0 n)));
            room = (let all = ap length same in let r = c.loop-tag.invariant.room in omega arith);
          }
    ]
