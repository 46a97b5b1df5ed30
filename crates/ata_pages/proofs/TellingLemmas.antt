-- What the pages report: each word of an identify page, and the fields of a log's page.
use Rattle.std.proofs.Common.{◌≡◌, ◌∙◌, ℕ, zero, suc, ◌+◌, ◌-◌, ◌*◌, ◌<◌, ◌≤◌, ◌==◌, ◌&&◌, Bool, true, false, cond, refl, ap, List, [], ◌∷◌, map, arith, codes, nat_lt}
use Rattle.std.specs.Int.{byte_at, from_le_bytes, w64}
use Rattle.std.specs.List.{flat_map, list_all, range_with_len}
use Rattle.std.specs.Prelude.{slice_index}
use Rattle.std.proofs.lemmas.Bool.Decides.{nat_tests}
use Rattle.std.proofs.lemmas.Nat.{from_le_bytes-to_le_bytes_8}
use Rattle.ncq_core.specs.Identify.{character, identify_page, identify_word, is_within, number_word, text_word, within_28_bits, word_bytes}
use Rattle.ncq_core.specs.Log.{log_page}
use Rattle.ata_pages.specs.IdentifyText.{word_of}
use Rattle.ata_pages.specs.Telling.{TellsError, TellsWords}

-- ---- the words of an identify page

-- two bytes before others
after_two : (x y : ℕ) (bytes : List ℕ) (i : ℕ) → word_of (x ∷ y ∷ bytes) (suc i) ≡ word_of bytes i
after_two x y bytes i =
    let low : 2 * suc i ≡ suc (suc (2 * i)) = omega arith in
    let high : 2 * suc i + 1 ≡ suc (suc (2 * i + 1)) = omega arith in
    ap (λ m. slice_index (x ∷ y ∷ bytes) m + 256 * slice_index (x ∷ y ∷ bytes) (2 * suc i + 1)) low
    ∙ ap (λ m. slice_index bytes (2 * i) + 256 * slice_index (x ∷ y ∷ bytes) m) high

-- the word at a number is that of the number's bytes
at_number : (word : ℕ → ℕ) (first count i : ℕ) → i < count
    → word_of (flat_map word_bytes (map word (range_with_len first count))) i ≡ byte_at 0 (word (first + i)) + 256 * byte_at 1 (word (first + i))
at_number word first zero i within = absurd (omega arith)
at_number word first (suc count) zero within = ap (λ n. byte_at 0 (word n) + 256 * byte_at 1 (word n)) {x = first} (omega arith)
at_number word first (suc count) (suc i) within =
    let next : first + 1 + i ≡ first + suc i = omega arith in
    after_two (byte_at 0 (word first)) (byte_at 1 (word first)) (flat_map word_bytes (map word (range_with_len (first + 1) count))) i
    ∙ at_number word (first + 1) count i (omega arith)
    ∙ ap (λ n. byte_at 0 (word n) + 256 * byte_at 1 (word n)) next

two_bytes : (n : ℕ) → n < 65536 → byte_at 0 n + 256 * byte_at 1 n ≡ n
two_bytes n small = omega arith

small_character : (text : List ℕ) (i : ℕ) → list_all (λ c. nat_lt c 256) text ≡ true → character text i < 256
small_character [] i all = omega arith
small_character (c ∷ text) i all = go (nat_lt c 256) refl all (small_character text) i
  where
    go : (b : Bool) → nat_lt c 256 ≡ b → (b && list_all (λ x. nat_lt x 256) text) ≡ true
        → ((i : ℕ) → list_all (λ x. nat_lt x 256) text ≡ true → character text i < 256) → (i : ℕ) → character (c ∷ text) i < 256
    go false is all rest i = cc
    go true is all rest zero = grind (arith, nat_tests)
    go true is all rest (suc i) = rest i all

small_text : (text : List ℕ) (i : ℕ) → list_all (λ c. nat_lt c 256) text ≡ true → text_word text i < 65536
small_text text i all =
    let high = small_character text (2 * i) all in
    let low = small_character text (2 * i + 1) all in
    omega arith

small_number : (n i : ℕ) → number_word n i < 65536
small_number n i = omega arith

either : (b : Bool) (x y : ℕ) → x < 65536 → y < 65536 → cond b x y < 65536
either true x y h k = h
either false x y h k = k

small_word : (s d n : ℕ) → d ≤ 32 → identify_word s d n < 65536
small_word s d n shallow =
    either (is_within 10 19 n) _ _ (small_text (codes "00000001") (n - 10) refl)
    (either (is_within 23 26 n) _ _ (small_text (codes "1.0") (n - 23) refl)
    (either (is_within 27 46 n) _ _ (small_text (codes "SOFTWARE NCQ DISK") (n - 27) refl)
    (either (n == 49) 0x0300 _ (omega arith)
    (either (is_within 60 61 n) _ _ (small_number (within_28_bits s) (n - 60))
    (either (n == 75) (d - 1) _ (omega arith)
    (either (n == 76) 0x0106 _ (omega arith)
    (either (n == 80) 0x0400 _ (omega arith)
    (either (n == 83) 0x6400 _ (omega arith)
    (either (n == 84) 0x4020 _ (omega arith)
    (either (n == 86) 0x2400 _ (omega arith)
    (either (n == 87) 0x4020 _ (omega arith)
    (either (is_within 100 103 n) _ 0 (small_number s (n - 100)) (omega arith)))))))))))))

pub words_told : TellsWords
unfolding identify_page
words_told s d n shallow within =
    at_number (identify_word s d) 0 256 n within
    ∙ ap (λ m. byte_at 0 (identify_word s d m) + 256 * byte_at 1 (identify_word s d m)) {x = 0 + n} {y = n} (omega arith)
    ∙ two_bytes (identify_word s d n) (small_word s d n shallow)

-- ---- the fields of a log's page

six_bytes : (lba : ℕ) → lba < 281474976710656
    → from_le_bytes w64 (byte_at 0 lba ∷ byte_at 1 lba ∷ byte_at 2 lba ∷ byte_at 3 lba ∷ byte_at 4 lba ∷ byte_at 5 lba ∷ 0 ∷ 0 ∷ []) ≡ lba
six_bytes lba small =
    let seventh : 0 ≡ byte_at 6 lba = omega arith in
    let eighth : 0 ≡ byte_at 7 lba = omega arith in
    ap (λ b. from_le_bytes w64 (byte_at 0 lba ∷ byte_at 1 lba ∷ byte_at 2 lba ∷ byte_at 3 lba ∷ byte_at 4 lba ∷ byte_at 5 lba ∷ b ∷ 0 ∷ [])) seventh
    ∙ ap (λ b. from_le_bytes w64 (byte_at 0 lba ∷ byte_at 1 lba ∷ byte_at 2 lba ∷ byte_at 3 lba ∷ byte_at 4 lba ∷ byte_at 5 lba ∷ byte_at 6 lba ∷ b ∷ [])) eighth
    ∙ from_le_bytes-to_le_bytes_8 lba (omega arith)

pub error_told : TellsError
unfolding log_page
error_told e low small = record {
  nq = omega arith;
  unl = omega arith;
  tag = omega arith;
  status = refl;
  error = refl;
  lba = six_bytes e.lba small;
}
