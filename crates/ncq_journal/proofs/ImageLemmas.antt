-- Sectors as parts of a list of bytes.
use Rattle.std.proofs.Common.{◌≡◌, ℕ, ◌+◌, ◌-◌, ◌*◌, ◌<◌, ◌≤◌, min, List, length, take, drop, ap, sym, ◌∙◌, arith, length-drop, inl, inr, cond, ◌&&◌, leb, ltb, ◌++◌, zero, suc, refl, Bool, true, false, replicate}
use Rattle.std.proofs.lemmas.List.{take_all, drop_all, drop-take, drop-drop, drop-replicate, take-append-le, take-replicate, length-replicate, length-take-le}
use Rattle.std.proofs.lemmas.Bool.{cases_lt, cond-true, cond-false, and_left, and_parts, and_right, and_from, leb-true, lt-leb, le-leb, lt-ltb, ltb-true, le-ltb}
use Rattle.std.proofs.Math.Seq.{drop-append-add, take-add}
use Rattle.std.specs.List.{flat_map, range_with_len}
use Rattle.std.proofs.lemmas.Slice.{take-put_mid_below, drop-put_mid}
use borrow.Rule.Slice.PartMut.{put_mid, post_of}
use Rattle.ncq_journal.specs.Image.{sector_at, is_within, zero_sector, zeroed}

take-min : (xs : List ℕ) (n : ℕ) → take (min (length xs) n) xs ≡ take n xs
take-min xs n =
    elim (cases_lt (length xs) n) [
      | inl short ↦ take_all (min (length xs) n) xs (omega arith) ∙ sym (take_all n xs (omega arith))
      | inr long ↦ ap (λ k. take k xs) (let e : min (length xs) n ≡ n = omega arith in e)
    ]

drop-min : (xs : List ℕ) (n : ℕ) → drop (min n (length xs)) xs ≡ drop n xs
drop-min xs n =
    elim (cases_lt n (length xs)) [
      | inl short ↦ ap (λ k. drop k xs) (let e : min n (length xs) ≡ n = omega arith in e)
      | inr long ↦ drop_all (min n (length xs)) xs (omega arith) ∙ sym (drop_all n xs long)
    ]

-- the bytes from a place on, both cut at the end
pub sector_at-slice : (bytes : List ℕ) (number start len : ℕ) → start ≡ min (512 * number) (length bytes)
    → len ≡ min (length bytes - start) 512 → take len (take (length bytes - start) (drop start bytes)) ≡ sector_at bytes number
sector_at-slice bytes number start len s l =
    let rest : length (drop start bytes) ≡ length bytes - start = length-drop start bytes in
    let whole : take (length bytes - start) (drop start bytes) ≡ drop start bytes = take_all (length bytes - start) (drop start bytes) (omega arith) in
    let cut : len ≡ min (length (drop start bytes)) 512 = omega arith in
    ap (take len) whole ∙ ap (λ k. take k (drop start bytes)) cut ∙ take-min (drop start bytes) 512 ∙ ap (λ k. take 512 (drop k bytes)) s ∙ ap (take 512) (drop-min bytes (512 * number))

a_sector : (xs : List ℕ) (s : ℕ) → sector_at xs s ≡ drop (512 * s) (take (512 * s + 512) xs)
a_sector xs s = sym (drop-take (512 * s) 512 xs)

-- each sector once whole sectors were written over a part of an image
pub sector_at-put_mid : (lba n k : ℕ) (xs ys : List ℕ) → k ≡ 512 * n → length ys ≡ 512 * n → lba * 512 + k ≤ length xs → (s : ℕ)
    → sector_at (put_mid (lba * 512) k xs ys) s ≡ cond (leb lba s && ltb s (lba + n)) (sector_at ys (s - lba)) (sector_at xs s)
sector_at-put_mid lba n k xs ys part len fits s =
    elim (cases_lt s lba) [
      | inl below ↦
          a_sector (put_mid (lba * 512) k xs ys) s
          ∙ ap (drop (512 * s)) (take-put_mid_below (lba * 512) k xs ys (512 * s + 512) (omega arith) (omega arith))
          ∙ sym (a_sector xs s)
          ∙ sym (cond-false _ (sector_at ys (s - lba)) (sector_at xs s) (and_left (leb lba s) (ltb s (lba + n)) (lt-leb lba s below)))
      | inr from ↦ elim (cases_lt s (lba + n)) [
        | inl inside ↦ within from inside
            ∙ sym (cond-true _ (sector_at ys (s - lba)) (sector_at xs s) (and_from (leb lba s) (ltb s (lba + n)) (le-leb lba s from) (lt-ltb s (lba + n) inside)))
        | inr after ↦
            ap (take 512) (drop-put_mid (lba * 512) k xs ys (512 * s) (omega arith) (omega arith) (omega arith))
            ∙ sym (cond-false _ (sector_at ys (s - lba)) (sector_at xs s) (and_right (leb lba s) (ltb s (lba + n)) (le-ltb s (lba + n) after)))
      ]
    ]
  where
    within : lba ≤ s → s < lba + n → sector_at (put_mid (lba * 512) k xs ys) s ≡ sector_at ys (s - lba)
    within from inside =
        let m = 512 * (s - lba) in
        let front = take (lba * 512) xs in
        let rest = ys ++ post_of (lba * 512) k xs in
        let front_len : length front ≡ lba * 512 = length-take-le (lba * 512) xs (omega arith) in
        let place : 512 * s ≡ length front + m = omega arith in
        ap (λ i. take 512 (drop i (front ++ rest))) place
        ∙ ap (take 512) (drop-append-add front rest m)
        ∙ sym (drop-take m 512 rest)
        ∙ ap (drop m) (take-append-le (m + 512) ys (post_of (lba * 512) k xs) (omega arith))
        ∙ drop-take m 512 ys

-- a sector of zeros alone
zero_within : (n i : ℕ) → i < n → sector_at (replicate (512 * n) 0) i ≡ zero_sector
unfolding zero_sector
zero_within n i low =
    ap (take 512) (drop-replicate (512 * i) (512 * n) 0) ∙ take-replicate 512 (512 * n - 512 * i) 0 (omega arith)

-- each sector once a part of an image is zeros
pub zeroed-put_mid : (lba n k : ℕ) (xs ys : List ℕ) → k ≡ 512 * n → ys ≡ replicate (512 * n) 0 → lba * 512 + k ≤ length xs → (s : ℕ)
    → sector_at (put_mid (lba * 512) k xs ys) s ≡ zeroed lba n s (sector_at xs s)
zeroed-put_mid lba n k xs ys part zeros fits s =
    let len : length ys ≡ 512 * n = ap length zeros ∙ length-replicate (512 * n) 0 in
    sector_at-put_mid lba n k xs ys part len fits s ∙ by (is_within lba n s) refl
  where
    by : (b : Bool) → is_within lba n s ≡ b → cond b (sector_at ys (s - lba)) (sector_at xs s) ≡ cond b zero_sector (sector_at xs s)
    by true e =
        let parts = and_parts (leb lba s) (ltb s (lba + n)) e in
        let from : lba ≤ s = leb-true lba s parts.0 in
        let below : s < lba + n = ltb-true s (lba + n) parts.1 in
        ap (λ y. sector_at y (s - lba)) zeros ∙ zero_within n (s - lba) (omega arith)
    by false e = refl

-- a run of an image's bytes is its sectors, joined
pub joined-sectors : (f : ℕ → List ℕ) (image : List ℕ) → ((s : ℕ) → sector_at image s ≡ f s) → (lba n : ℕ) → take (512 * n) (drop (512 * lba) image) ≡ flat_map f (range_with_len lba n)
joined-sectors f image each lba zero = refl
joined-sectors f image each lba (suc n) =
    let more : 512 * suc n ≡ 512 + 512 * n = omega arith in
    let next : 512 * lba + 512 ≡ 512 * (lba + 1) = omega arith in
    ap (λ k. take k (drop (512 * lba) image)) more
    ∙ take-add 512 (512 * n) (drop (512 * lba) image)
    ∙ ap (λ x. x ++ take (512 * n) (drop 512 (drop (512 * lba) image))) (each lba)
    ∙ ap (λ x. f lba ++ take (512 * n) x) (drop-drop 512 (512 * lba) image ∙ ap (λ k. drop k image) next)
    ∙ ap (λ x. f lba ++ x) (joined-sectors f image each (lba + 1) n)
