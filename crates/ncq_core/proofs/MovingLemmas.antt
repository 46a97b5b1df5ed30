-- Data FISes, one after another: what has moved after some of them, and what all of them have moved.
use Rattle.std.proofs.Common.{◌≡◌, ℕ, ◌+◌, ◌-◌, ◌*◌, ◌/◌, ◌%◌, ◌≤◌, Bool, cond, ◌&&◌, leb, ltb, List, [], ◌++◌, length, take, drop, ap, sym, refl, ◌∙◌, arith, inl, inr, length-drop, length-take}
use Rattle.std.proofs.lemmas.Bool.{cases_lt, cond-true, cond-false, and_from, and_left, and_right, le-leb, lt-leb, lt-ltb, le-ltb}
use Rattle.std.proofs.lemmas.List.{take_at, take-take, drop-drop, drop-take, length-take-le}
use Rattle.std.proofs.lemmas.Slice.{drop-append-drop}
use Rattle.std.proofs.Math.Seq.{take-add}
use Rattle.std.specs.List.{replace_range}
use Rattle.ncq_journal.specs.Image.{IsWrittenOver, sector_at}
use Rattle.sector_store.specs.Reserved.{AreReserved}

-- the first part of the text after n bytes more, where the host had put the bytes before them at its beginning
pub delivered_more : (bytes before after : List ℕ) (done end n : ℕ) → end ≡ done + n → end ≤ length bytes → after ≡ take done bytes ++ drop done before
    → replace_range after done (done + n) (take n (drop done bytes)) ≡ take end bytes ++ drop end before
delivered_more bytes before after done end n e within text =
    let front = take done bytes in
    let len : length front ≡ done = length-take-le done bytes (omega arith) in
    let first : take done after ≡ front = ap (take done) text ∙ take_at front (drop done before) done len in
    let rest : drop (done + n) after ≡ drop (done + n) before = ap (drop (done + n)) text ∙ drop-append-drop done before front (done + n) (omega arith) len in
    ap (λ xs. (xs ++ take n (drop done bytes)) ++ drop (done + n) after) first
    ∙ ap (λ xs. (front ++ take n (drop done bytes)) ++ xs) rest
    ∙ ap (λ xs. xs ++ drop (done + n) before) (sym (take-add done n bytes))
    ∙ ap (λ k. take k bytes ++ drop k before) (sym e)

-- a Data FIS of a read has the next n bytes of a run of sectors
pub next_part : (image : List ℕ) (lba total done n : ℕ) → done % 512 ≡ 0 → done + n ≤ total
    → take n (drop (512 * (lba + done / 512)) image) ≡ take n (drop done (take total (drop (512 * lba) image)))
next_part image lba total done n whole fits =
    let run = drop (512 * lba) image in
    let place : 512 * (lba + done / 512) ≡ 512 * lba + done = omega arith in
    let rest : done + (total - done) ≡ total = omega arith in
    ap (λ k. take n (drop k image)) place
    ∙ ap (take n) (sym (drop-drop done (512 * lba) image))
    ∙ sym (take-take n (total - done) (drop done run) (omega arith))
    ∙ ap (take n) (sym (drop-take done (total - done) run) ∙ ap (λ k. drop done (take k run)) rest)

-- each sector of an image over which so many were written
over_by : (lba n : ℕ) (bytes old new : List ℕ) → length bytes ≡ 512 * n → IsWrittenOver lba bytes old new → (s : ℕ)
    → sector_at new s ≡ cond (leb lba s && ltb s (lba + n)) (sector_at bytes (s - lba)) (sector_at old s)
over_by lba n bytes old new len over s =
    let count : length bytes / 512 ≡ n = omega arith in
    over s ∙ ap (λ k. cond (leb lba s && ltb s (lba + k)) (sector_at bytes (s - lba)) (sector_at old s)) count

-- nothing is written over an image
pub over_none : (lba : ℕ) (text image : List ℕ) → IsWrittenOver lba (take 0 text) image image
over_none lba text image s =
    sym (cond-false (leb lba s && ltb s (lba + 0)) (sector_at [] (s - lba)) (sector_at image s) (elim (cases_lt s lba) [
      | inl below ↦ and_left (leb lba s) (ltb s (lba + 0)) (lt-leb lba s below)
      | inr from ↦ and_right (leb lba s) (ltb s (lba + 0)) (le-ltb s (lba + 0) (omega arith))
    ]))

-- a sector of the first bytes of a text, and of a part of it
sector_of_first : (text : List ℕ) (end i : ℕ) → 512 * i + 512 ≤ end → sector_at (take end text) i ≡ sector_at text i
sector_of_first text end i fits =
    let rest : end ≡ 512 * i + (end - 512 * i) = omega arith in
    ap (λ k. take 512 (drop (512 * i) (take k text))) rest ∙ ap (take 512) (drop-take (512 * i) (end - 512 * i) text) ∙ take-take 512 (end - 512 * i) (drop (512 * i) text) (omega arith)

sector_of_part : (text : List ℕ) (done n i : ℕ) → done % 512 ≡ 0 → 512 * i + 512 ≤ n → sector_at (take n (drop done text)) i ≡ sector_at text (done / 512 + i)
sector_of_part text done n i whole fits =
    let place : done + 512 * i ≡ 512 * (done / 512 + i) = omega arith in
    sector_of_first (drop done text) n i fits ∙ ap (take 512) (drop-drop (512 * i) done text ∙ ap (λ k. drop k text) place)

-- the next n bytes of a text are written over an image after those before them
pub over_more : (lba done n end : ℕ) (text part old mid new : List ℕ) → done % 512 ≡ 0 → n % 512 ≡ 0 → end ≡ done + n → end ≤ length text → part ≡ take n (drop done text)
    → IsWrittenOver lba (take done text) old mid → IsWrittenOver (lba + done / 512) part mid new → IsWrittenOver lba (take end text) old new
over_more lba done n end text part old mid new whole part_whole is within part_is before after s =
    let k = done / 512 in
    let m = n / 512 in
    let len_before : length (take done text) ≡ 512 * k = length-take-le done text (omega arith) ∙ (omega arith) in
    let len_part : length part ≡ 512 * m = ap length part_is ∙ length-take n (drop done text) ∙ (let d = length-drop done text in omega arith) in
    let len_all : length (take end text) / 512 ≡ k + m = ap (λ j. j / 512) (length-take-le end text within) ∙ (omega arith) in
    let first = over_by lba k (take done text) old mid len_before before s in
    let second = over_by (lba + k) m part mid new len_part after s in
    let all = λ (b : Bool). cond b (sector_at (take end text) (s - lba)) (sector_at old s) in
    let goal_is : all (leb lba s && ltb s (lba + length (take end text) / 512)) ≡ all (leb lba s && ltb s (lba + (k + m))) = ap (λ j. all (leb lba s && ltb s (lba + j))) len_all in
    by first second ∙ sym goal_is
  where
    by : sector_at mid s ≡ cond (leb lba s && ltb s (lba + done / 512)) (sector_at (take done text) (s - lba)) (sector_at old s)
        → sector_at new s ≡ cond (leb (lba + done / 512) s && ltb s (lba + done / 512 + n / 512)) (sector_at part (s - (lba + done / 512))) (sector_at mid s)
        → sector_at new s ≡ cond (leb lba s && ltb s (lba + (done / 512 + n / 512))) (sector_at (take end text) (s - lba)) (sector_at old s)
    by first second = elim (cases_lt s lba) [
      | inl below ↦
          second ∙ cond-false (leb (lba + done / 512) s && ltb s (lba + done / 512 + n / 512)) _ _ (and_left (leb (lba + done / 512) s) _ (lt-leb (lba + done / 512) s (omega arith)))
          ∙ first ∙ cond-false (leb lba s && ltb s (lba + done / 512)) _ _ (and_left (leb lba s) _ (lt-leb lba s below))
          ∙ sym (cond-false (leb lba s && ltb s (lba + (done / 512 + n / 512))) _ _ (and_left (leb lba s) _ (lt-leb lba s below)))
      | inr from ↦ elim (cases_lt s (lba + done / 512)) [
        | inl early ↦
            second ∙ cond-false (leb (lba + done / 512) s && ltb s (lba + done / 512 + n / 512)) _ _ (and_left (leb (lba + done / 512) s) _ (lt-leb (lba + done / 512) s early))
            ∙ first ∙ cond-true (leb lba s && ltb s (lba + done / 512)) _ _ (and_from (leb lba s) (ltb s (lba + done / 512)) (le-leb lba s from) (lt-ltb s (lba + done / 512) early))
            ∙ sector_of_first text done (s - lba) (omega arith) ∙ sym (sector_of_first text end (s - lba) (omega arith))
            ∙ sym (cond-true (leb lba s && ltb s (lba + (done / 512 + n / 512))) _ _ (and_from (leb lba s) (ltb s (lba + (done / 512 + n / 512))) (le-leb lba s from) (lt-ltb s (lba + (done / 512 + n / 512)) (omega arith))))
        | inr late ↦ elim (cases_lt s (lba + (done / 512 + n / 512))) [
          | inl inside ↦
              let place : done / 512 + (s - (lba + done / 512)) ≡ s - lba = omega arith in
              second ∙ cond-true (leb (lba + done / 512) s && ltb s (lba + done / 512 + n / 512)) _ _ (and_from (leb (lba + done / 512) s) (ltb s (lba + done / 512 + n / 512)) (le-leb (lba + done / 512) s late) (lt-ltb s (lba + done / 512 + n / 512) (omega arith)))
              ∙ ap (λ xs. sector_at xs (s - (lba + done / 512))) part_is
              ∙ sector_of_part text done n (s - (lba + done / 512)) whole (omega arith)
              ∙ ap (sector_at text) place ∙ sym (sector_of_first text end (s - lba) (omega arith))
              ∙ sym (cond-true (leb lba s && ltb s (lba + (done / 512 + n / 512))) _ _ (and_from (leb lba s) (ltb s (lba + (done / 512 + n / 512))) (le-leb lba s from) (lt-ltb s (lba + (done / 512 + n / 512)) inside)))
          | inr past ↦
              second ∙ cond-false (leb (lba + done / 512) s && ltb s (lba + done / 512 + n / 512)) _ _ (and_right (leb (lba + done / 512) s) (ltb s (lba + done / 512 + n / 512)) (le-ltb s (lba + done / 512 + n / 512) (omega arith)))
              ∙ first ∙ cond-false (leb lba s && ltb s (lba + done / 512)) _ _ (and_right (leb lba s) (ltb s (lba + done / 512)) (le-ltb s (lba + done / 512) late))
              ∙ sym (cond-false (leb lba s && ltb s (lba + (done / 512 + n / 512))) _ _ (and_right (leb lba s) (ltb s (lba + (done / 512 + n / 512))) (le-ltb s (lba + (done / 512 + n / 512)) past)))
        ]
      ]
    ]

-- the sectors of a Data FIS are reserved if the command's are
pub part_reserved : (reserved : ℕ → Bool) (lba sectors done n : ℕ) → done % 512 ≡ 0 → n % 512 ≡ 0 → done + n ≤ 512 * sectors → AreReserved reserved lba sectors
    → AreReserved reserved (lba + done / 512) (n / 512)
part_reserved reserved lba sectors done n whole part_whole fits all s from below = all s (omega arith) (omega arith)
