-- An array that a closure makes of another, whose state no call changes.
use Rattle.std.proofs.Common.{◌≡◌, ℕ, zero, suc, ◌+◌, ◌<◌, List, length, map, get_or, ap, sym, ◌∙◌, subst, arith}
use Rattle.std.specs.Array.{IsMapOf, MapsFrom}
use Rattle.std.specs.Fn.{Called, Mut}
use Rattle.std.proofs.lemmas.List.{get_or-map, length-map, same_lists}

module _ {F A B : Type 0} (g : Mut F (A × Unit {0}) B) (h : A → B) (f : F) (same : (x : A) (y : B) (q : F) → Called g f (x, tt) y q → (y ≡ h x) × (q ≡ f)) (xs : List A) (ys : List B) (d : A) where
  at_each : (e : B) (n i j : ℕ) → j < n → MapsFrom g f xs ys i n → get_or ys (i + j) e ≡ h (get_or xs (i + j) d)
  at_each e zero i j low made = absurd (let no : ⊥ = omega (arith, low) in no)
  at_each e (suc n) i zero low made =
      let here : i + zero ≡ i = omega arith in
      ap (λ k. get_or ys k e) here ∙ made.4.1 e ∙ (same made.1 made.2 made.0 made.5).0 ∙ ap h (sym (made.3.1 d) ∙ ap (λ k. get_or xs k d) (sym here))
  at_each e (suc n) i (suc j) low made =
      let on : i + suc j ≡ i + 1 + j = omega arith in
      ap (λ k. get_or ys k e) on
      ∙ at_each e n (i + 1) j (omega (arith, low)) (subst (λ (p : F). MapsFrom g p xs ys (i + 1) n) (same made.1 made.2 made.0 made.5).1 made.6)
      ∙ ap (λ k. h (get_or xs k d)) (sym on)

  -- what was made of each
  pub mapped : (n : ℕ) → length xs ≡ n → IsMapOf g f xs ys n → ys ≡ map h xs
  mapped n size made = same_lists ys (map h xs) (made.long ∙ sym size ∙ sym (length-map xs h)) (λ k e low.
      let small : k < n = omega (arith, low, made.long) in
      let all : 0 + k ≡ k = omega arith in
      ap (λ m. get_or ys m e) (sym all) ∙ at_each e n 0 k small made.each ∙ ap (λ m. h (get_or xs m d)) all ∙ sym (get_or-map h xs k d e (omega (arith, small, size))))
