-- What a hole with a width and leading zeros writes of a number: a fixed count of digits.
use Rattle.std.proofs.Common.{◌≡◌, ℕ, zero, suc, ◌+◌, ◌-◌, ◌/◌, ◌%◌, ◌^◌, ◌<◌, ◌≤◌, false, List, [], ◌∷◌, ◌++◌, length, replicate, refl, ap, sym, ◌∙◌, arith, append_assoc, append-nil, inl, inr}
use Rattle.std.proofs.Math.Nat.{pow-suc, pow-zero}
use Rattle.std.proofs.lemmas.Bool.{cases_eq}
use Rattle.std.proofs.lemmas.List.{replicate_more}
use Rattle.std.proofs.lemmas.Nat.{div-add-mod', div_below}
use Rattle.std.specs.Fmt.{char_count, digit_glyph, digits, digits_onto, format_spec, padded_integral}
use Rattle.std.proofs.DigitsParse.{digits_onto-nil, digits_onto_last, digits_onto_step}
use Rattle.ata_pages.specs.Digits.{last_digits}

module _ (base : ℕ) (some : 0 < base) where
  -- zero has zeros alone
  no_digits : (count : ℕ) → last_digits base count 0 ≡ replicate count 48
  no_digits zero = refl
  no_digits (suc count) =
      let low = div_below 0 base 1 some (omega arith) in
      let whole = div-add-mod' 0 base in
      let quotient : 0 / base ≡ 0 = omega arith in
      let rest : 0 % base ≡ 0 = omega arith in
      ap (λ n. last_digits base count n ++ digit_glyph false (0 % base) ∷ []) quotient
      ∙ ap (λ n. last_digits base count 0 ++ digit_glyph false n ∷ []) rest
      ∙ ap (λ xs. xs ++ 48 ∷ []) (no_digits count)
      ∙ replicate_more count 48
      ∙ ap (λ n. replicate n 48) {x = count + 1} {y = suc count} (omega arith)

  -- a quotient has a digit less
  shorter : (count n : ℕ) → n < base ^ (suc count) → n / base < base ^ count
  shorter count n small = div_below n base (base ^ count) some (rw pow-suc at small)

  -- digits after zeros, up to the width
  abbrev after_zeros : ℕ → List ℕ → List ℕ → List ℕ
  after_zeros width rest ds = replicate (width + length rest - length ds) 48 ++ ds

  filled : (count fuel n : ℕ) (rest : List ℕ) → 0 < count → count ≤ fuel → n < base ^ count
      → after_zeros count rest (digits_onto fuel base false n rest) ≡ last_digits base count n ++ rest
  filled zero fuel n rest wide enough small = absurd (omega arith)
  filled (suc count) fuel n rest wide enough small =
      let glyph = digit_glyph false (n % base) in
      elim (cases_eq (n / base) 0) [
        | inl last ↦
            let fewer : suc count + length rest - length (glyph ∷ rest) ≡ count = omega arith in
            ap (after_zeros (suc count) rest) (digits_onto_last base false n rest fuel (omega arith) last)
            ∙ ap (λ m. replicate m 48 ++ glyph ∷ rest) fewer
            ∙ sym (append_assoc (replicate count 48) (glyph ∷ []) rest)
            ∙ ap (λ xs. (xs ++ glyph ∷ []) ++ rest) (sym (no_digits count))
            ∙ ap (λ m. (last_digits base count m ++ glyph ∷ []) ++ rest) (sym last)
        | inr more ↦
            let low = shorter count n small in
            let left : 0 < count = first_left count (n / base) low more in
            let same : suc count + length rest ≡ count + length (glyph ∷ rest) = omega arith in
            let onto = digits_onto (fuel - 1) base false (n / base) (glyph ∷ rest) in
            ap (after_zeros (suc count) rest) (digits_onto_step base false n rest fuel (omega arith) more)
            ∙ ap (λ m. replicate (m - length onto) 48 ++ onto) same
            ∙ filled count (fuel - 1) (n / base) (glyph ∷ rest) left (omega arith) low
            ∙ sym (append_assoc (last_digits base count (n / base)) (glyph ∷ []) rest)
      ]
    where
      first_left : (m q : ℕ) → q < base ^ m → (q ≡ 0 → ⊥) → 0 < m
      first_left zero q low more = let one = pow-zero base in absurd (more (omega arith))
      first_left (suc m) q low more = omega arith

  -- what `{:03}` and its kin write
  zero_padded : (width : ℕ) (ds : List ℕ) → padded_integral (format_spec 32 0 4 width (2 ^ 64 - 1)) false [] ds ≡ replicate (width - length ds) 48 ++ ds
  unfolding padded_integral char_count
  zero_padded width ds =
      let padding : width - length ds - 0 - 0 ≡ width - length ds = omega arith in
      rw (append-nil ds, padding)

  pub fixed_digits : (width n : ℕ) → 0 < width → width ≤ 64 → n < base ^ width
      → padded_integral (format_spec 32 0 4 width (2 ^ 64 - 1)) false [] (digits base false n) ≡ last_digits base width n
  fixed_digits width n some enough small =
      zero_padded width (digits base false n)
      ∙ ap (λ ds. replicate (width - length ds) 48 ++ ds) (sym (digits_onto-nil base false n))
      ∙ ap (λ m. replicate (m - length (digits_onto 64 base false n [])) 48 ++ digits_onto 64 base false n []) {x = width} {y = width + 0} (omega arith)
      ∙ filled width 64 n [] some enough small
      ∙ append-nil (last_digits base width n)

pub three_digits : (n : ℕ) → n < 1000 → padded_integral (format_spec 32 0 4 3 (2 ^ 64 - 1)) false [] (digits 10 false n) ≡ last_digits 10 3 n
three_digits n small = fixed_digits 10 (omega arith) 3 n (omega arith) (omega arith) small

pub two_hex_digits : (n : ℕ) → n < 256 → padded_integral (format_spec 32 0 4 2 (2 ^ 64 - 1)) false [] (digits 16 false n) ≡ last_digits 16 2 n
two_hex_digits n small = fixed_digits 16 (omega arith) 2 n (omega arith) (omega arith) small

pub four_hex_digits : (n : ℕ) → n < 65536 → padded_integral (format_spec 32 0 4 4 (2 ^ 64 - 1)) false [] (digits 16 false n) ≡ last_digits 16 4 n
four_hex_digits n small = fixed_digits 16 (omega arith) 4 n (omega arith) (omega arith) small
