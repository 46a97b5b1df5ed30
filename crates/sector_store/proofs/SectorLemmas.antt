-- One sector of a page or an image.
use Rattle.std.proofs.Common.{◌≡◌, ℕ, ◌+◌, ◌-◌, ◌*◌, ◌≤◌, List, length, ap, sym, ◌∙◌, arith, inl, inr, cond, ◌&&◌, leb, ltb, eqb}
use Rattle.std.proofs.lemmas.Bool.{cases_eq, cases_lt, cond-true, cond-false, and_from, and_left, and_right, le-leb, lt-leb, lt-ltb, le-ltb, eq-eqb, ne_eqb}
use Rattle.std.proofs.lemmas.List.{take_all}
use borrow.Rule.Slice.PartMut.{put_mid}
use Rattle.ncq_journal.specs.Image.{sector_at}
use Rattle.ncq_journal.proofs.ImageLemmas.{sector_at-put_mid}

-- each sector once one was written
pub sector_at-put_one : (place k : ℕ) (xs ys : List ℕ) → k ≡ 512 → length ys ≡ 512 → place * 512 + 512 ≤ length xs → (s : ℕ)
    → sector_at (put_mid (place * 512) k xs ys) s ≡ cond (eqb s place) ys (sector_at xs s)
sector_at-put_one place k xs ys size len fits s =
    let put = sector_at-put_mid place 1 k xs ys (omega arith) (omega arith) (omega arith) s in
    elim (cases_eq s place) [
      | inl same ↦
          put
          ∙ cond-true (leb place s && ltb s (place + 1)) (sector_at ys (s - place)) (sector_at xs s) (and_from (leb place s) (ltb s (place + 1)) (le-leb place s (omega arith)) (lt-ltb s (place + 1) (omega arith)))
          ∙ ap (sector_at ys) (let first : s - place ≡ 0 = omega arith in first)
          ∙ take_all 512 ys (omega arith)
          ∙ sym (cond-true (eqb s place) ys (sector_at xs s) (eq-eqb s place same))
      | inr other ↦ elim (cases_lt s place) [
        | inl below ↦ put ∙ cond-false (leb place s && ltb s (place + 1)) (sector_at ys (s - place)) (sector_at xs s) (and_left (leb place s) (ltb s (place + 1)) (lt-leb place s below))
            ∙ sym (cond-false (eqb s place) ys (sector_at xs s) (ne_eqb s place other))
        | inr above ↦ put ∙ cond-false (leb place s && ltb s (place + 1)) (sector_at ys (s - place)) (sector_at xs s) (and_right (leb place s) (ltb s (place + 1)) (le-ltb s (place + 1) (omega arith)))
            ∙ sym (cond-false (eqb s place) ys (sector_at xs s) (ne_eqb s place other))
      ]
    ]
