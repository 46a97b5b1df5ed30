-- The pieces of a window lie between its table and its end, and copying into them leaves what the window says.
use Rattle.std.proofs.Common.{◌≡◌, ℕ, ◌+◌, ◌*◌, ◌%◌, ◌^◌, ◌<◌, ◌≤◌, zero, suc, true, false, ltb, leb, List, [], ◌∷◌, length, map, get_or, ap, sym, refl, subst, ◌∙◌, arith}
use Rattle.std.specs.List.{range_with_len, All}
use Rattle.std.proofs.lemmas.Bool.{lt-leb, and_left, or_from}
use Rattle.std.proofs.lemmas.List.FromFn.{length-map-range_with_len, get_or-map-range_with_len}
use Rattle.std.proofs.lemmas.List.{length-append}
use Rattle.sata_fis.specs.Places.{number}
use Rattle.sata_fis.specs.Layout.{h2d_at}
use Rattle.sata_fis.specs.Spelling.{Spells}
use Rattle.sata_fis.specs.Command.{is_queued, asked_by}
use Rattle.sata_fis.specs.declared.fis.Fis.TheVariants.{H2d}
use Rattle.ahci_table.specs.declared.piece.Piece.{Piece}
use Rattle.ahci_table.specs.Piece.{end_of, covers, are_apart, total}
use Rattle.ahci_table.specs.Window.{WindowState, base, most_bytes}
use Rattle.ahci_table.specs.Header.{header_of}
use Rattle.ahci_table.specs.Prdt.{EntryFields, entry_at, entry_of, entry_place, piece_of, table_end, pieces}
use Rattle.ahci_table.specs.Text.{bytes_of, joined, replaced, text}
use Rattle.ahci_table.specs.Command.{cfis, queued_of}
use Rattle.ahci_table.specs.Fit.{HasEntries, IsEntry, IsFit}
use Rattle.ahci_table.specs.Scatter.{IsScattered, in_some}
use Rattle.ahci_table.proofs.PartLemmas.{same_part}
use Rattle.ahci_table.proofs.RunLemmas.{length-bytes_of}

-- what holds of each entry's piece holds of each piece
pub each_piece : (w : WindowState) (P : Piece → Type 0) → ((i : ℕ) → i < (header_of w).prdtl → P (piece_of (base w.tag) (entry_of w i))) → All P (pieces w)
each_piece w P each k d h =
    let f = λ (i : ℕ). piece_of (base w.tag) (entry_of w i) in
    let n = (header_of w).prdtl in
    let below : k < n = omega (arith, length-map-range_with_len f 0 n) in
    subst P (sym (get_or-map-range_with_len f 0 n k k d below (omega arith))) (each k below)

pub pieces_inside : (w : WindowState) → HasEntries w → All (λ p. end_of p ≤ length w.bytes) (pieces w)
pieces_inside w h = each_piece w (λ p. end_of p ≤ length w.bytes) (λ i below. inside (base w.tag) (table_end w) (length w.bytes) (entry_of w i) (h i below))
  where
    inside : (start first last : ℕ) (e : EntryFields) → IsEntry start first last e → end_of (piece_of start e) ≤ last
    inside start first last e f = let a = f.after in let b = f.within in omega arith

pub pieces_after : (w : WindowState) → HasEntries w → All (λ p. table_end w ≤ p.at) (pieces w)
pieces_after w h = each_piece w (λ p. table_end w ≤ p.at) (λ i below. starts_after (base w.tag) (table_end w) (length w.bytes) (entry_of w i) (h i below))
  where
    starts_after : (start first last : ℕ) (e : EntryFields) → IsEntry start first last e → first ≤ (piece_of start e).at
    starts_after start first last e f = let a = f.after in omega arith

-- a place before all pieces is in none
pub none_before : (t x : ℕ) (ps : List Piece) → All (λ p. t ≤ p.at) ps → x < t → in_some x ps ≡ false
none_before t x [] h l = refl
none_before t x (p ∷ ps) h l =
    let first : t ≤ p.at = h 0 p (omega arith) in
    or_from (covers x p) (in_some x ps) (and_left (leb p.at x) (ltb x (end_of p)) (lt-leb p.at x (omega arith))) (none_before t x ps (λ k d b. h (suc k) d (omega arith)) l)

-- a number is read from its bytes alone
pub number_same : (i n : ℕ) (xs ys : List ℕ) → ((x : ℕ) → i ≤ x → x < i + n → get_or xs x 0 ≡ get_or ys x 0) → number i n xs ≡ number i n ys
number_same i zero xs ys h = refl
number_same i (suc n) xs ys h =
    ap (λ a. a + 256 * number (suc i) n xs) (h i (omega arith) (omega arith))
    ∙ ap (λ b. get_or ys i 0 + 256 * b) (number_same (suc i) n xs ys (λ x l u. h x (omega arith) (omega arith)))

-- an entry is read from its 16 bytes alone
pub entry_same : (place : ℕ) (xs ys : List ℕ) → ((x : ℕ) → place ≤ x → x < place + 16 → get_or xs x 0 ≡ get_or ys x 0) → entry_at place xs ≡ entry_at place ys
entry_same place xs ys h =
    let a : number place 4 xs ≡ number place 4 ys = number_same place 4 xs ys (λ x l u. h x (omega arith) (omega arith)) in
    let b : number (place + 4) 4 xs ≡ number (place + 4) 4 ys = number_same (place + 4) 4 xs ys (λ x l u. h x (omega arith) (omega arith)) in
    let c : number (place + 12) 4 xs ≡ number (place + 12) 4 ys = number_same (place + 12) 4 xs ys (λ x l u. h x (omega arith) (omega arith)) in
    ap (λ n. made n (number (place + 4) 4 xs) (number (place + 12) 4 xs)) a
    ∙ ap (λ n. made (number place 4 ys) n (number (place + 12) 4 xs)) b
    ∙ ap (λ n. made (number place 4 ys) (number (place + 4) 4 ys) n) c
  where
    made : ℕ → ℕ → ℕ → EntryFields
    made a b c = record { dba = a; dbau = b; dbc = c % 2 ^ 22 }

-- the same list of pieces, entry by entry
pub pieces_same : (f g : ℕ → Piece) (n : ℕ) → ((i : ℕ) → i < n → f i ≡ g i) → map f (range_with_len 0 n) ≡ map g (range_with_len 0 n)
pieces_same f g n h = go 0 n (λ i l u. h i (omega arith))
  where
    go : (a m : ℕ) → ((i : ℕ) → a ≤ i → i < a + m → f i ≡ g i) → map f (range_with_len a m) ≡ map g (range_with_len a m)
    go a zero k = refl
    go a (suc m) k = ap (λ p. p ∷ map f (range_with_len (a + 1) m)) (k a (omega arith) (omega arith)) ∙ ap (λ ps. g a ∷ ps) (go (a + 1) m (λ i l u. k i (omega arith) (omega arith)))

-- a record of the same window with other bytes
abbrev pub with_bytes : WindowState → List ℕ → WindowState
with_bytes w bytes = record { tag = w.tag; header = w.header; bytes = bytes }

-- other bytes say the same where they agree with the first ones up to the end of the table
pub record Agrees (w : WindowState) (bytes : List ℕ) : Type 0 where
  pub len : length bytes ≡ length w.bytes
  pub table : (x : ℕ) → x < table_end w → get_or bytes x 0 ≡ get_or w.bytes x 0

pub agree_entry : (w : WindowState) (bytes : List ℕ) → Agrees w bytes → (i : ℕ) → i < (header_of w).prdtl → entry_of (with_bytes w bytes) i ≡ entry_of w i
agree_entry w bytes h i below = entry_same (entry_place i) bytes w.bytes (λ x l u. h.table x (omega arith))

pub agree_pieces : (w : WindowState) (bytes : List ℕ) → Agrees w bytes → pieces (with_bytes w bytes) ≡ pieces w
agree_pieces w bytes h =
    pieces_same (λ i. piece_of (base w.tag) (entry_of (with_bytes w bytes) i)) (λ i. piece_of (base w.tag) (entry_of w i)) (header_of w).prdtl
    (λ i below. ap (piece_of (base w.tag)) (agree_entry w bytes h i below))

pub agree_cfis : (w : WindowState) (bytes : List ℕ) → Agrees w bytes → cfis (with_bytes w bytes) ≡ cfis w
agree_cfis w bytes h = same_part 0 20 bytes w.bytes h.len (λ x l u. h.table x (omega arith))

pub agree_fit : (w : WindowState) (bytes : List ℕ) → Agrees w bytes → IsFit w → IsFit (with_bytes w bytes)
agree_fit w bytes h f =
    let new = with_bytes w bytes in
    let list = agree_pieces w bytes h in
    let fis = sym (agree_cfis w bytes h) in
    record {
      header = record {
        cfl = f.header.cfl;
        a = f.header.a;
        r = f.header.r;
        b = f.header.b;
        c = f.header.c;
        some = f.header.some;
        most = f.header.most;
        ctba = f.header.ctba;
        ctbau = f.header.ctbau;
        room = subst (λ n. table_end w ≤ n) (sym h.len) f.header.room;
        bounded = subst (λ n. n ≤ most_bytes) (sym h.len) f.header.bounded;
      };
      command = record {
        spells = subst (λ xs. Spells xs (H2d (h2d_at xs))) fis f.command.spells;
        asks = subst (λ xs. is_queued (h2d_at xs) ≡ true) fis f.command.asks;
        direction = subst (λ xs. (header_of w).w ≡ (asked_by (h2d_at xs)).write) fis f.command.direction;
      };
      tag = subst (λ xs. (asked_by (h2d_at xs)).tag ≡ w.tag) fis f.tag;
      listed = record {
        entries = λ i below. subst (λ n. IsEntry (base w.tag) (table_end w) n (entry_of new i)) (sym h.len)
            (subst (IsEntry (base w.tag) (table_end w) (length w.bytes)) (sym (agree_entry w bytes h i below)) (f.listed.entries i below));
        apart = subst (λ ps. are_apart ps ≡ true) (sym list) f.listed.apart;
        whole = ap total list ∙ subst (λ xs. total (pieces w) ≡ 512 * (asked_by (h2d_at xs)).sectors) fis f.listed.whole;
      };
    }

-- what copying into the pieces leaves
pub scattered_window : (w : WindowState) (offset : ℕ) (from bytes : List ℕ) → IsFit w → length bytes ≡ length w.bytes
    → joined (pieces w) bytes ≡ replaced offset from (text w) → ((x : ℕ) → in_some x (pieces w) ≡ false → get_or bytes x 0 ≡ get_or w.bytes x 0)
    → IsScattered w offset from (with_bytes w bytes) × IsFit (with_bytes w bytes)
scattered_window w offset from bytes f len moved others =
    let h : Agrees w bytes = record { len = len; table = λ x below. others x (none_before (table_end w) x (pieces w) (pieces_after w f.listed.entries) below) } in
    let list = agree_pieces w bytes h in (
      record {
        text_is = ap (λ ps. joined ps bytes) list ∙ moved;
        tag_is = refl;
        header_is = refl;
        len_is = len;
        pieces_are = list;
        cfis_is = agree_cfis w bytes h;
        others = others;
      },
      agree_fit w bytes h f,
    )

-- the same of bytes and of a list that are those of the window
pub scattered_in : (w v : WindowState) (offset : ℕ) (from old new : List ℕ) (list : List Piece) → list ≡ pieces w → old ≡ w.bytes → v ≡ with_bytes w new → IsFit w
    → length new ≡ length old → joined list new ≡ replaced offset from (joined list old) → ((x : ℕ) → in_some x list ≡ false → get_or new x 0 ≡ get_or old x 0)
    → IsScattered w offset from v × IsFit v
scattered_in w v offset from old new list own was is f len moved others =
    subst (λ u. IsScattered w offset from u × IsFit u) (sym is)
    (scattered_window w offset from new f (len ∙ ap length was) (rw (own, was) at moved) (rw (own, was) at others))

-- the text of a window that is fit has the bytes of the command's sectors
length-joined : (n : ℕ) (bytes : List ℕ) (ps : List Piece) → n ≡ length bytes → All (λ p. end_of p ≤ n) ps → length (joined ps bytes) ≡ total ps
length-joined n bytes [] same h = refl
length-joined n bytes (p ∷ ps) same h =
    let first : end_of p ≤ n = h 0 p (omega arith) in
    length-append (bytes_of p bytes) (joined ps bytes)
    ∙ ap (λ k. k + length (joined ps bytes)) (length-bytes_of p bytes (omega arith))
    ∙ ap (λ k. p.len + k) (length-joined n bytes ps same (λ k d l. h (suc k) d (omega arith)))

pub length-text : (w : WindowState) → IsFit w → length (text w) ≡ 512 * (queued_of w).sectors
length-text w f = length-joined (length w.bytes) w.bytes (pieces w) refl (pieces_inside w f.listed.entries) ∙ f.listed.whole
