-- The default pieces and the packed ones serve every count that one command can have.
use Rattle.std.proofs.Common.{◌≡◌, ℕ, zero, suc, ◌+◌, ◌-◌, ◌*◌, ◌%◌, ◌^◌, ◌<◌, ◌≤◌, min, Bool, true, false, not, cond, ◌||◌, List, [], map, length, nat_eq, nat_le}
use Rattle.std.proofs.Common.{nat_lt, eq-eqb, None, refl, ap, ◌∙◌, sym, arith}
use Rattle.std.specs.Int.{div_ceil}
use Rattle.std.specs.List.{list_all, list_any, range_with_len}
use Rattle.std.proofs.Math.Nat.{mul-suc, mul-le-mul_left}
use Rattle.std.proofs.lemmas.Bool.{le-ltb, le-leb, leb-true, ltb-false, eqb-true, or_parts, true≢false}
use Rattle.std.proofs.lemmas.List.FromFn.{length-map-range_with_len}
use Rattle.ahci_table.specs.Defaults.{default_list, list_of, most_apiece, packed_list, piece_from, sectors_apiece}
use Rattle.ahci_table.specs.Piece.{are_apart, end_of, is_apart, total}
use Rattle.ahci_table.specs.Prdt.{entry_place}
use Rattle.ahci_table.specs.Refusal.{has_bad_count, is_odd, is_outside, list_refusal}
use Rattle.ahci_table.specs.declared.piece.Piece.{Piece}
use Rattle.ahci_table.specs.declared.piece_layout.PieceLayout.{PieceLayout}
use Rattle.ahci_table.specs.declared.piece_layout.PieceLayout.TheVariants.{Default, Packed}
use Rattle.ncq_journal.specs.Lawful.{most_sectors}
use Rattle.ncq_journal.specs.Work.{Work, sectors_of, is_ragged}

-- how many pieces a command needs, of so many sectors each
pub record IsEnough (n a k : ℕ) : Type 0 where
  pub some : 1 ≤ a
  pub small : a ≤ 8192
  pub few : k ≤ 32
  pub begun : (i : ℕ) → i < k → a * i < n
  pub all : n ≤ a * k

pub enough : (n : ℕ) → n ≤ most_sectors → IsEnough n (sectors_apiece n) (div_ceil n (sectors_apiece n))
enough n most = by (nat_le n 256) refl
  where
    by : (b : Bool) → nat_le n 256 ≡ b → IsEnough n (cond b 8 2048) (div_ceil n (cond b 8 2048))
    by true e =
        let short : n ≤ 256 = leb-true n 256 e in
        record { some = omega arith; small = omega arith; few = omega (arith, short); begun = λ i l. omega (arith, l); all = omega arith }
    by false e = record { some = omega arith; small = omega arith; few = omega (arith, most); begun = λ i l. omega (arith, l); all = omega arith }

pub enough_packed : (n : ℕ) → n ≤ most_sectors → IsEnough n most_apiece (div_ceil n most_apiece)
enough_packed n most = record { some = omega arith; small = omega arith; few = omega (arith, most); begun = λ i l. omega (arith, l); all = omega arith }

needed : (n k a : ℕ) → 1 ≤ n → n ≤ a * k → 0 < k
needed n zero a some all = let none : a * 0 ≡ 0 = omega arith in absurd (omega (arith, some, all, none))
needed n (suc k) a some all = omega arith

-- the piece of so many sectors after those that other pieces have
abbrev piece_after : ℕ → ℕ → ℕ → ℕ → Piece
piece_after f n a x = record { at = f + 512 * x; len = 512 * min (n - x) a }

abbrev run_of : ℕ → ℕ → ℕ → ℕ → ℕ → List Piece
run_of f n a s k = map (piece_from f n a) (range_with_len s k)

-- what no piece of a run is
none_is : (q : Piece → Bool) (f n a s k : ℕ) → ((i : ℕ) → s ≤ i → i < s + k → q (piece_from f n a i) ≡ false) → list_any q (run_of f n a s k) ≡ false
none_is q f n a s zero each = refl
none_is q f n a s (suc k) each =
    let first = each s (omega arith) (omega arith) in
    let others = none_is q f n a (s + 1) k (λ i low high. each i (omega (arith, low)) (omega (arith, high))) in
    rw (first, others) refl

-- what each piece of a run is
each_is : (q : Piece → Bool) (f n a s k : ℕ) → ((i : ℕ) → s ≤ i → i < s + k → q (piece_from f n a i) ≡ true) → list_all q (run_of f n a s k) ≡ true
each_is q f n a s zero each = refl
each_is q f n a s (suc k) each =
    let first = each s (omega arith) (omega arith) in
    let others = each_is q f n a (s + 1) k (λ i low high. each i (omega (arith, low)) (omega (arith, high))) in
    rw (first, others) refl

-- tests of numbers
is_le : (a b : ℕ) → a ≤ b → nat_le a b ≡ true
is_le a b l = le-leb a b l

not_below : (a b : ℕ) → b ≤ a → nat_lt a b ≡ false
not_below a b l = le-ltb a b l

is_eq : (a b : ℕ) → a ≡ b → nat_eq a b ≡ true
is_eq a b e = eq-eqb a b e

not_zero : (a : ℕ) → 0 < a → nat_eq a 0 ≡ false
not_zero a l = by (nat_eq a 0) refl
  where
    by : (b : Bool) → nat_eq a 0 ≡ b → b ≡ false
    by false e = refl
    by true e = let same = eqb-true a 0 e in absurd (omega (arith, same, l))

-- a piece begins and ends at even places, and has some bytes and no more than DBC can count
piece_fine : (f n a x : ℕ) → f % 2 ≡ 0 → 1 ≤ a → a ≤ 8192 → x < n → is_odd (piece_after f n a x) ≡ false
piece_fine f n a x even has small within =
    let p = piece_after f n a x in
    let at : nat_eq (p.at % 2) 0 ≡ true = is_eq (p.at % 2) 0 (omega (arith, even)) in
    let even : nat_eq (p.len % 2) 0 ≡ true = is_eq (p.len % 2) 0 (omega arith) in
    let some : nat_eq p.len 0 ≡ false = not_zero p.len (omega (arith, has, within)) in
    let most : nat_lt (2 ^ 22) p.len ≡ false = not_below (2 ^ 22) p.len (omega (arith, small)) in
    rw (at, even, some, most) refl

-- a piece lies after a table of at most 32 entries and ends before the longest window's end
piece_inside : (f n a x k : ℕ) → n ≤ most_sectors → entry_place k ≤ f → f ≤ 0x1000 → x < n → is_outside k (piece_after f n a x) ≡ false
piece_inside f n a x k most after first within =
    let p = piece_after f n a x in
    let after : nat_lt p.at (entry_place k) ≡ false = not_below p.at (entry_place k) (omega (arith, after)) in
    let inside : nat_lt 67108864 (end_of p) ≡ false = not_below 67108864 (end_of p) (omega (arith, most, first, within)) in
    rw (after, inside) refl

-- a piece that begins after so many sectors more shares no byte with the first
beside : (f n a x y : ℕ) → x + a ≤ y → is_apart (piece_after f n a x) (piece_after f n a y) ≡ true
beside f n a x y after =
    let before : nat_le (end_of (piece_after f n a x)) (f + 512 * y) ≡ true = is_le _ _ (omega (arith, after)) in
    ap (λ b. b || nat_le (end_of (piece_after f n a y)) (f + 512 * x)) before

-- where the next piece begins
next : (a s : ℕ) → a * (s + 1) ≡ a * s + a
next a s = let one : s + 1 ≡ suc s = omega arith in ap (λ z. a * z) one ∙ mul-suc a s

later : (a s i : ℕ) → s < i → a * s + a ≤ a * i
later a s i l = let more : a * suc s ≤ a * i = mul-le-mul_left a (omega (arith, l)) in let same = mul-suc a s in omega (arith, more, same)

-- pieces of different numbers share no byte
pieces_apart : (f n a s k : ℕ) → are_apart (run_of f n a s k) ≡ true
pieces_apart f n a s zero = refl
pieces_apart f n a s (suc k) =
    let first : list_all (is_apart (piece_from f n a s)) (run_of f n a (s + 1) k) ≡ true =
    each_is (is_apart (piece_from f n a s)) f n a (s + 1) k (λ i low high. beside f n a (a * s) (a * i) (later a s i (omega (arith, low)))) in
    let others = pieces_apart f n a (s + 1) k in
    rw (first, others) refl

-- the bytes of a run of pieces
one_more : (n a x y : ℕ) → 512 * min (n - x) a + 512 * min (n - (x + a)) y ≡ 512 * min (n - x) (y + a)
one_more n a x y = omega arith

pieces_total : (f n a s k : ℕ) → total (run_of f n a s k) ≡ 512 * min (n - a * s) (a * k)
pieces_total f n a s zero = omega arith
pieces_total f n a s (suc k) =
    ap (λ t. 512 * min (n - a * s) a + t) (pieces_total f n a (s + 1) k)
    ∙ ap (λ x. 512 * min (n - a * s) a + 512 * min (n - x) (a * k)) (next a s)
    ∙ one_more n a (a * s) (a * k)
    ∙ ap (λ y. 512 * min (n - a * s) y) (sym (mul-suc a k))

-- nothing refuses pieces that are enough, from an even place behind the table on
serve : (f n a k : ℕ) → f % 2 ≡ 0 → entry_place k ≤ f → f ≤ 0x1000 → 1 ≤ n → n ≤ most_sectors → IsEnough n a k → list_refusal (run_of f n a 0 k) (512 * n) ≡ None
serve f n a k even after first some most e =
    let ps = run_of f n a 0 k in
    let count : length ps ≡ k = length-map-range_with_len (piece_from f n a) 0 k in
    let has : nat_eq (length ps) 0 ≡ false = ap (λ x. nat_eq x 0) count ∙ not_zero k (needed n k a some e.all) in
    let few : nat_lt 32 (length ps) ≡ false = ap (nat_lt 32) count ∙ not_below 32 k e.few in
    let fine : list_any is_odd ps ≡ false =
    none_is is_odd f n a 0 k (λ i low high. piece_fine f n a (a * i) even e.some e.small (e.begun i (omega (arith, high)))) in
    let inside : list_any (is_outside (length ps)) ps ≡ false =
    ap (λ x. list_any (is_outside x) ps) count
    ∙ none_is (is_outside k) f n a 0 k (λ i low high. piece_inside f n a (a * i) k most after first (e.begun i (omega (arith, high)))) in
    let apart : not (are_apart ps) ≡ false = ap not (pieces_apart f n a 0 k) in
    let sum : total ps ≡ 512 * n = pieces_total f n a 0 k ∙ whole n a k e.all in
    let whole : not (nat_eq (total ps) (512 * n)) ≡ false = ap not (is_eq (total ps) (512 * n) sum) in
    rw (has, few, fine, inside, apart, whole) refl
  where
    from_front : (n x : ℕ) → n ≤ x → 512 * min (n - 0) x ≡ 512 * n
    from_front n x l = omega (arith, l)

    whole : (n a k : ℕ) → n ≤ a * k → 512 * min (n - a * 0) (a * k) ≡ 512 * n
    whole n a k l = (let none : a * 0 ≡ 0 = omega arith in ap (λ z. 512 * min (n - z) (a * k)) none) ∙ from_front n (a * k) l

list_serves : (layout : PieceLayout) (n : ℕ) → 1 ≤ n → n ≤ most_sectors → list_refusal (list_of layout n) (512 * n) ≡ None
list_serves Default n some most =
    let a = sectors_apiece n in
    let k = div_ceil n a in
    let e = enough n most in
    let few = e.few in
    let here : default_list n ≡ run_of 0x1000 n a 0 k = ap (λ b. cond b (run_of 0x1000 n a 0 k) []) (is_le n most_sectors most) in
    ap (λ l. list_refusal l (512 * n)) here ∙ serve 0x1000 n a k refl (omega (arith, few)) (omega arith) some most e
list_serves Packed n some most =
    let a = most_apiece in
    let k = div_ceil n a in
    let f = entry_place k in
    let e = enough_packed n most in
    let few = e.few in
    let here : packed_list n ≡ run_of f n a 0 k = ap (λ b. cond b (run_of f n a 0 k) []) (is_le n most_sectors most) in
    ap (λ l. list_refusal l (512 * n)) here ∙ serve f n a k (omega arith) (omega arith) (omega (arith, few)) some most e

pub layout_serves : (layout : PieceLayout) (work : Work) → has_bad_count work ≡ false → list_refusal (list_of layout (sectors_of work)) (512 * sectors_of work) ≡ None
layout_serves layout work good =
    let n = sectors_of work in
    let count = (or_parts (nat_eq n 0 || nat_lt most_sectors n) (is_ragged work) good).0 in
    let each = or_parts (nat_eq n 0) (nat_lt most_sectors n) count in
    list_serves layout n (from_zero n each.0) (ltb-false most_sectors n each.1)
  where
    from_zero : (m : ℕ) → nat_eq m 0 ≡ false → 1 ≤ m
    from_zero zero e = absurd (true≢false e)
    from_zero (suc m) e = omega arith

pub defaults_serve : (work : Work) → has_bad_count work ≡ false → list_refusal (default_list (sectors_of work)) (512 * sectors_of work) ≡ None
defaults_serve work good = layout_serves Default work good
