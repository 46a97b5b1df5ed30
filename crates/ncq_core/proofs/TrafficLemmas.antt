-- Data FISes, one after another: which of them have passed.
use Rattle.std.proofs.Common.{◌≡◌, ℕ, zero, suc, ◌+◌, ◌/◌, ◌%◌, ◌≤◌, Bool, true, false, cond, nat_eq, List, [], ◌∷◌, ◌++◌, map, ap, sym, refl, ◌∙◌, arith, append-nil}
use Rattle.std.specs.Prelude.{replicate}
use Rattle.std.proofs.lemmas.Bool.{eq-eqb, eqb-true}
use Rattle.std.proofs.lemmas.List.{map-append, replicate-append-replicate}
use Rattle.ncq_core.specs.Traffic.{Activate, Data, Passed, moved_by, payloads}

-- whole Data FISes, and the rest after them
abbrev split : ℕ → Bool → ℕ → List ℕ
split whole b rest = replicate whole 8192 ++ cond b [] (rest ∷ [])

pub payloads_more : (done end n : ℕ) → done % 8192 ≡ 0 → end ≡ done + n → 1 ≤ n → n ≤ 8192 → payloads done ++ n ∷ [] ≡ payloads end
payloads_more done end n aligned is some most =
    ap (λ xs. xs ++ n ∷ []) (ap (λ b. split (done / 8192) b (done % 8192)) (eq-eqb (done % 8192) 0 aligned) ∙ append-nil (replicate (done / 8192) 8192))
    ∙ by (nat_eq (end % 8192) 0) refl
  where
    by : (b : Bool) → nat_eq (end % 8192) 0 ≡ b → replicate (done / 8192) 8192 ++ n ∷ [] ≡ split (end / 8192) b (end % 8192)
    by true e =
        let last : end % 8192 ≡ 0 = eqb-true (end % 8192) 0 e in
        let whole : n ≡ 8192 = omega arith in
        let count : done / 8192 + 1 ≡ end / 8192 = omega arith in
        ap (λ k. replicate (done / 8192) 8192 ++ k ∷ []) whole ∙ replicate-append-replicate (done / 8192) 1 8192 ∙ ap (λ k. replicate k 8192) count
        ∙ sym (append-nil (replicate (end / 8192) 8192))
    by false e =
        let short : n ≡ end % 8192 = rest (end % 8192) refl e in
        let count : done / 8192 ≡ end / 8192 = omega arith in
        ap (λ k. replicate (done / 8192) 8192 ++ k ∷ []) short ∙ ap (λ k. replicate k 8192 ++ end % 8192 ∷ []) count
      where
        rest : (r : ℕ) → end % 8192 ≡ r → nat_eq r 0 ≡ false → n ≡ end % 8192
        rest zero at none = absurd (cc)
        rest (suc r) at none = omega arith

-- one more Data FIS
moved_more : (f : ℕ → Passed) (done end n : ℕ) → done % 8192 ≡ 0 → end ≡ done + n → 1 ≤ n → n ≤ 8192 → map f (payloads done) ++ f n ∷ [] ≡ map f (payloads end)
moved_more f done end n aligned is some most = sym (map-append f (payloads done) (n ∷ [])) ∙ ap (map f) (payloads_more done end n aligned is some most)

pub sent_more : (done end n : ℕ) → done % 8192 ≡ 0 → end ≡ done + n → 1 ≤ n → n ≤ 8192 → moved_by false done ++ Data n ∷ [] ≡ moved_by false end
sent_more = moved_more Data

pub fetched_on : (done end n : ℕ) → done % 8192 ≡ 0 → end ≡ done + n → 1 ≤ n → n ≤ 8192 → moved_by true done ++ Activate n ∷ [] ≡ moved_by true end
fetched_on = moved_more Activate
