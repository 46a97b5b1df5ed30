-- The pages in which the disk describes itself: what a loop has written of them, and the sum of one.
use Rattle.std.proofs.Common.{◌≡◌, ℕ, ◌+◌, ◌-◌, ◌*◌, ◌%◌, ◌<◌, List, [], ◌∷◌, ◌++◌, length, take, drop, get_or, set, map, replicate, refl, ap, sym, ◌∙◌, arith, length-append, append_assoc, append-nil}
use Rattle.std.proofs.lemmas.List.{drop-replicate, length-replicate, take_at, drop_at, set_at, replicate_more, length-map}
use Rattle.std.proofs.lemmas.List.Sums.{sum_by_more, sum_by-append}
use Rattle.std.proofs.lemmas.List.FromFn.{map-range_with_len_more, length-range_with_len}
use Rattle.std.proofs.lemmas.Grind.{flat_map-append}
use Rattle.std.specs.List.{flat_map, range_with_len, sum}
use borrow.Rule.Slice.PartMut.{put_mid}
use Rattle.ncq_core.specs.DiskState.{DiskError}
use Rattle.ncq_core.specs.Identify.{identify_word, identify_page, word_bytes}
use Rattle.ncq_core.specs.DiskLaws.{LogAddsUp}
use Rattle.ncq_core.specs.Log.{log_page, log_body, checksum}

-- the sum of one byte more
pub sum_more : (bytes : List ℕ) (i total : ℕ) → i < length bytes → total ≡ sum (take i bytes) % 256 → (total + get_or bytes i 0) % 256 ≡ sum (take (i + 1) bytes) % 256
sum_more bytes i total more so_far = let e = sum_by_more (λ x. x) bytes i 0 more in omega arith

-- what makes a sum 0 modulo 256 is the checksum
pub checksum_is : (total result : ℕ) (bytes : List ℕ) → total ≡ sum bytes % 256 → (result + total) % 256 ≡ 0 → result < 256 → result ≡ checksum bytes
checksum_is total result bytes so_far zero small = omega arith

-- a head of a bytes, n zeros after it, and room for one byte more
headed : (head : List ℕ) (a n : ℕ) → head ++ drop a (replicate (a + n + 1) 0) ≡ (head ++ replicate n 0) ++ 0 ∷ []
headed head a n =
    let left : a + n + 1 - a ≡ n + 1 = omega arith in
    ap (λ xs. head ++ xs) (drop-replicate a (a + n + 1) 0 ∙ ap (λ k. replicate k 0) left ∙ sym (replicate_more n 0))
    ∙ sym (append_assoc head (replicate n 0) (0 ∷ []))

length-headed : (head : List ℕ) (a n : ℕ) → length head ≡ a → length (head ++ replicate n 0) ≡ a + n
length-headed head a n len = length-append head (replicate n 0) ∙ (let zeros = length-replicate {A = ℕ} n 0 in omega arith)

-- the last byte is set once the others are known
pub logged : (head : List ℕ) (a n c : ℕ) → length head ≡ a → c ≡ checksum (take (a + n) (head ++ drop a (replicate (a + n + 1) 0)))
    → set (head ++ drop a (replicate (a + n + 1) 0)) (a + n) c ≡ (head ++ replicate n 0) ++ checksum (head ++ replicate n 0) ∷ []
logged head a n c len is =
    let body = head ++ replicate n 0 in
    let whole = headed head a n in
    let size = length-headed head a n len in
    let sum_of : c ≡ checksum body = is ∙ ap (λ xs. checksum (take (a + n) xs)) whole ∙ ap checksum (take_at body (0 ∷ []) (a + n) size) in
    ap (λ xs. set xs (a + n) c) whole ∙ set_at body 0 [] c (a + n) size ∙ ap (λ x. body ++ x ∷ []) sum_of

pub log_page_is : (e : DiskError) → log_page e ≡ log_body e ++ checksum (log_body e) ∷ []
unfolding log_page
log_page_is e = refl

-- the first n words of a disk of s sectors with d tags
words : ℕ → ℕ → ℕ → List ℕ
words s d n = flat_map word_bytes (map (identify_word s d) (range_with_len 0 n))

words_more : (s d n : ℕ) → words s d (n + 1) ≡ words s d n ++ word_bytes (identify_word s d n)
unfolding words
words_more s d n =
    ap (flat_map word_bytes) (map-range_with_len_more (identify_word s d) 0 n n (omega arith))
    ∙ flat_map-append word_bytes (map (identify_word s d) (range_with_len 0 n)) (identify_word s d n ∷ [])
    ∙ ap (λ xs. flat_map word_bytes (map (identify_word s d) (range_with_len 0 n)) ++ xs) (append-nil (word_bytes (identify_word s d n)))

two_each : (ws : List ℕ) → length (flat_map word_bytes ws) ≡ 2 * length ws
two_each [] = refl
two_each (w ∷ ws) = let rest = two_each ws in omega arith

length-words : (s d n : ℕ) → length (words s d n) ≡ 2 * n
unfolding words
length-words s d n = two_each (map (identify_word s d) (range_with_len 0 n)) ∙ ap (λ k. 2 * k) (length-map (range_with_len 0 n) (identify_word s d) ∙ length-range_with_len 0 n)

-- the page once its first n words are written
pub written_words : ℕ → ℕ → ℕ → List ℕ
written_words s d n = words s d n ++ replicate (512 - 2 * n) 0

-- no word at first
pub written_none : (s d : ℕ) → replicate 512 0 ≡ written_words s d 0
unfolding written_words words
written_none s d = refl

-- all words at last
pub written_all : (s d n : ℕ) → n ≡ 256 → written_words s d n ≡ identify_page s d
unfolding written_words words identify_page
written_all s d n e = ap (λ k. words s d k ++ replicate (512 - 2 * k) 0) e ∙ append-nil (words s d 256)

-- two bytes in the place of the first zeros after a front
after_front : (front : List ℕ) (at n : ℕ) (bytes : List ℕ) → length front ≡ at → put_mid at 2 (front ++ replicate n 0) bytes ≡ (front ++ bytes) ++ replicate (n - 2) 0
after_front front at n bytes len =
    ap (λ xs. xs ++ (bytes ++ drop 2 (drop at (front ++ replicate n 0)))) (take_at front (replicate n 0) at len)
    ∙ ap (λ xs. front ++ (bytes ++ drop 2 xs)) (drop_at front (replicate n 0) at len)
    ∙ ap (λ xs. front ++ (bytes ++ xs)) (drop-replicate 2 n 0)
    ∙ sym (append_assoc front bytes (replicate (n - 2) 0))

-- one word more
pub written_more : (s d n k : ℕ) (page bytes : List ℕ) → k ≡ 2 → page ≡ written_words s d n → bytes ≡ word_bytes (identify_word s d n) → put_mid (2 * n) k page bytes ≡ written_words s d (n + 1)
unfolding written_words
written_more s d n k page bytes two so_far is =
    let left : 512 - 2 * n - 2 ≡ 512 - 2 * (n + 1) = omega arith in
    ap (λ m. put_mid (2 * n) m page bytes) two
    ∙ ap (λ xs. put_mid (2 * n) 2 xs bytes) so_far
    ∙ after_front (words s d n) (2 * n) (512 - 2 * n) bytes (length-words s d n)
    ∙ ap (λ xs. (words s d n ++ xs) ++ replicate (512 - 2 * n - 2) 0) is
    ∙ ap (λ xs. xs ++ replicate (512 - 2 * n - 2) 0) (sym (words_more s d n))
    ∙ ap (λ m. words s d (n + 1) ++ replicate m 0) left

-- bytes and their checksum add up to 0 modulo 256
adds_up : (bytes : List ℕ) → sum (bytes ++ checksum bytes ∷ []) % 256 ≡ 0
adds_up bytes =
    let both = sum_by-append (λ x. x) bytes (checksum bytes ∷ []) in
    let last : sum (checksum bytes ∷ []) ≡ checksum bytes = omega arith in
    omega (arith, both, last)

pub log_adds_up : LogAddsUp
unfolding log_page
log_adds_up e = adds_up (log_body e)
