-- What is written into a new window is read there again, and makes it fit.
use Rattle.std.proofs.Common.{◌≡◌, ℕ, ◌+◌, ◌-◌, ◌*◌, ◌/◌, ◌%◌, ◌^◌, ◌<◌, ◌≤◌, zero, suc, Bool, true, false, cond, nat_eq, List, [], ◌∷◌, ◌++◌, length, take, replicate}
use Rattle.std.proofs.Common.{get_or, ap, sym, refl, subst, ◌∙◌, arith, inl, inr}
use Rattle.std.specs.Int.{byte_at}
use Rattle.std.specs.List.{flat_map}
use Rattle.std.proofs.lemmas.Bool.{cases_lt, cond-false, eqb-true}
use Rattle.std.proofs.lemmas.List.{same_lists, get_or-take, take-take, get_or_append_left, get_or-append-add}
use Rattle.std.proofs.lemmas.List.FromFn.{length-map-range_with_len, get_or-map-range_with_len}
use Rattle.sata_fis.specs.Fields.{QueuedFields}
use Rattle.sata_fis.specs.Places.{byte, number}
use Rattle.sata_fis.specs.Layout.{h2d_at}
use Rattle.sata_fis.specs.Encoding.{h2d_bytes}
use Rattle.sata_fis.specs.Command.{asked_by, h2d_for, is_queued}
use Rattle.sata_fis.proofs.FieldLemmas.{two_bytes, four_bytes}
use Rattle.sata_fis.proofs.SpellingLemmas.{h2d_at-h2d_bytes}
use Rattle.ncq_journal.specs.Image.{is_write}
use Rattle.ncq_journal.specs.Lawful.{IsProper}
use Rattle.ncq_journal.specs.Work.{Work, Read, Write, lba_of, sectors_of}
use Rattle.ahci_table.specs.declared.piece.Piece.{Piece}
use Rattle.ahci_table.specs.declared.piece_layout.PieceLayout.{PieceLayout}
use Rattle.ahci_table.specs.Build.{IsBuilt, Carries, dword, data_for, entry_for, header_for, queued_for}
use Rattle.ahci_table.specs.Command.{cfis, h2d, queued_of}
use Rattle.ahci_table.specs.Defaults.{list_of}
use Rattle.ahci_table.specs.Fit.{IsEntry, IsFit}
use Rattle.ahci_table.specs.Header.{HeaderFields, header_at, header_of}
use Rattle.ahci_table.specs.Piece.{are_apart, end_of, furthest, total}
use Rattle.ahci_table.specs.Prdt.{EntryFields, entry_at, entry_of, entry_place, piece_of, pieces, table_end}
use Rattle.ahci_table.specs.Text.{joined, text}
use Rattle.ahci_table.specs.Window.{WindowState, base}
use Rattle.ahci_table.proofs.BuildLemmas.{furthest_covers, furthest_within, table_fits}
use Rattle.ahci_table.proofs.ProperLemmas.{proper_serves}
use Rattle.ahci_table.proofs.RefusalLemmas.{IsFree, IsEven, all_after, all_below, all_even, free_from}

-- the header's fields
abbrev pub fields : Bool → ℕ → ℕ → HeaderFields
fields w n start = record { cfl = 5; a = false; w = w; r = false; b = false; c = false; prdtl = n; ctba = start; ctbau = 0 }

header_read : (write : Bool) (n start : ℕ) → n < 2 ^ 16 → start < 2 ^ 32 → 128 * (start / 128) ≡ start
    → header_at (((cond write 0x45 0x05) ∷ 0 ∷ byte_at 0 n ∷ byte_at 1 n ∷ []) ++ dword 0 ++ dword start ++ dword 0 ++ replicate 16 0) ≡ fields write n start
header_read true n start small fits aligned = rw (two_bytes n small, four_bytes start fits, aligned) refl
header_read false n start small fits aligned = rw (two_bytes n small, four_bytes start fits, aligned) refl

pub header_written : (tag : ℕ) (work : Work) (n : ℕ) → tag < 32 → n ≤ 32 → header_at (header_for tag work n) ≡ fields (is_write work) n (base tag)
header_written tag work n low few = header_read (is_write work) n (base tag) (omega arith) (omega arith) (omega arith)

-- a number read from the same bytes at another place
number_shift : (i j n : ℕ) (xs ys : List ℕ) → ((k : ℕ) → k < n → get_or xs (i + k) 0 ≡ get_or ys (j + k) 0) → number i n xs ≡ number j n ys
number_shift i j zero xs ys h = refl
number_shift i j (suc n) xs ys h =
    let first : get_or xs i 0 ≡ get_or ys j 0 = ap (λ x. get_or xs x 0) (let e : i ≡ i + 0 = omega arith in e) ∙ h 0 (omega arith) ∙ ap (λ x. get_or ys x 0) (let e : j + 0 ≡ j = omega arith in e) in
    let rest = number_shift (suc i) (suc j) n xs ys
    (λ k l. ap (λ x. get_or xs x 0) (let e : suc i + k ≡ i + suc k = omega arith in e) ∙ h (suc k) (omega arith) ∙ ap (λ x. get_or ys x 0) (let e : j + suc k ≡ suc j + k = omega arith in e)) in
    ap (λ a. a + 256 * number (suc i) n xs) first ∙ ap (λ b. get_or ys j 0 + 256 * b) rest

abbrev made : ℕ → ℕ → ℕ → EntryFields
made a b c = record { dba = a; dbau = b; dbc = c % 2 ^ 22 }

entry_shift : (p q : ℕ) (xs ys : List ℕ) → ((k : ℕ) → k < 16 → get_or xs (p + k) 0 ≡ get_or ys (q + k) 0) → entry_at p xs ≡ entry_at q ys
entry_shift p q xs ys h =
    let part : (m : ℕ) → m ≤ 12 → number (p + m) 4 xs ≡ number (q + m) 4 ys =
    λ m l. number_shift (p + m) (q + m) 4 xs ys
    (λ k b. ap (λ x. get_or xs x 0) (let e : p + m + k ≡ p + (m + k) = omega arith in e) ∙ h (m + k) (omega arith) ∙ ap (λ x. get_or ys x 0) (let e : q + (m + k) ≡ q + m + k = omega arith in e)) in
    let first = number_shift p q 4 xs ys (λ k b. h k (omega arith)) in
    ap (λ n. made n (number (p + 4) 4 xs) (number (p + 12) 4 xs)) first
    ∙ ap (λ n. made (number q 4 ys) n (number (p + 12) 4 xs)) (part 4 (omega arith))
    ∙ ap (λ n. made (number q 4 ys) (number (q + 4) 4 ys) n) (part 12 (omega arith))

-- an entry that was written
entry_read : (start : ℕ) (p : Piece) → start + p.at < 2 ^ 32 → 0 < p.len → p.len ≤ 2 ^ 22 → entry_at 0 (entry_for start p) ≡ record { dba = start + p.at; dbau = 0; dbc = p.len - 1 }
entry_read start p fits some most =
    let small : (p.len - 1) % 2 ^ 22 ≡ p.len - 1 = omega arith in
    rw (four_bytes (start + p.at) fits, four_bytes (p.len - 1) (omega arith), small) refl

-- the bytes of entry i of a PRDT
prdt_at : (start : ℕ) (ps : List Piece) (i k : ℕ) (d : Piece) → i < length ps → k < 16 → get_or (flat_map (entry_for start) ps) (16 * i + k) 0 ≡ get_or (entry_for start (get_or ps i d)) k 0
prdt_at start [] i k d l s = absurd (omega arith)
prdt_at start (p ∷ ps) zero k d l s =
    ap (λ x. get_or (flat_map (entry_for start) (p ∷ ps)) x 0) (let e : 16 * 0 + k ≡ k = omega arith in e)
    ∙ get_or_append_left (entry_for start p) (flat_map (entry_for start) ps) 0 k s
prdt_at start (p ∷ ps) (suc i) k d l s =
    ap (λ x. get_or (flat_map (entry_for start) (p ∷ ps)) x 0) (let e : 16 * suc i + k ≡ 16 + (16 * i + k) = omega arith in e)
    ∙ get_or-append-add (entry_for start p) (flat_map (entry_for start) ps) (16 * i + k) 0
    ∙ prdt_at start ps i k d (omega arith) s

-- the entry of a piece
abbrev entry_with : ℕ → Piece → EntryFields
entry_with start p = record { dba = start + p.at; dbau = 0; dbc = p.len - 1 }

-- entry i of a window that was written
pub entry_written : (tag : ℕ) (work : Work) (fua : Bool) (ps : List Piece) (w : WindowState) (i : ℕ) (d : Piece) → tag < 32 → IsFree work ps → IsBuilt tag work fua ps w → i < length ps
    → entry_of w i ≡ entry_with (base tag) (get_or ps i d)
entry_written tag work fua ps w i d low f b below =
    let p = get_or ps i d in
    let t = entry_place (length ps) in
    let front = h2d_bytes (h2d_for (queued_for tag work fua)) ++ replicate 108 0 in
    let flat = flat_map (entry_for (base tag)) ps in
    let even = all_even work ps f i d below in
    let some = even.some in
    let most = even.most in
    let under : end_of p ≤ 0x04000000 = all_below work ps f i d below in
    let at : (k : ℕ) → k < 16 → get_or w.bytes (entry_place i + k) 0 ≡ get_or (entry_for (base tag) p) (0 + k) 0 =
    λ k s.
    sym (get_or-take t w.bytes (entry_place i + k) 0 (omega arith))
    ∙ ap (λ z. get_or z (entry_place i + k) 0) b.table_is
    ∙ ap (λ x. get_or (front ++ flat) x 0) (let e : entry_place i + k ≡ 128 + (16 * i + k) = omega arith in e)
    ∙ get_or-append-add front flat (16 * i + k) 0
    ∙ prdt_at (base tag) ps i k d below s
    ∙ ap (λ x. get_or (entry_for (base tag) p) x 0) (let e : k ≡ 0 + k = omega arith in e) in
    entry_shift (entry_place i) 0 w.bytes (entry_for (base tag) p) at ∙ entry_read (base tag) p (omega arith) some most

-- a piece, from its entry
piece_back : (start : ℕ) (p : Piece) → 0 < p.len → piece_of start (entry_with start p) ≡ p
piece_back start p some =
    let a : start + p.at - start ≡ p.at = omega arith in
    let b : p.len - 1 + 1 ≡ p.len = omega arith in
    ap (λ n. both n (p.len - 1 + 1)) a ∙ ap (both p.at) b
  where
    both : ℕ → ℕ → Piece
    both a b = record { at = a; len = b }

-- the number of entries is that of the pieces
pub header_back : (tag : ℕ) (work : Work) (fua : Bool) (ps : List Piece) (w : WindowState) → tag < 32 → IsFree work ps → IsBuilt tag work fua ps w → header_of w ≡ fields (is_write work) (length ps) (base tag)
header_back tag work fua ps w low f b = ap header_at b.header_is ∙ header_written tag work (length ps) low f.few

pub pieces_back : (tag : ℕ) (work : Work) (fua : Bool) (ps : List Piece) (w : WindowState) → tag < 32 → IsFree work ps → IsBuilt tag work fua ps w → pieces w ≡ ps
pieces_back tag work fua ps w low f b =
    let n = (header_of w).prdtl in
    let g = λ (i : ℕ). piece_of (base w.tag) (entry_of w i) in
    let count : n ≡ length ps = ap (λ h. h.prdtl) (header_back tag work fua ps w low f b) in
    let len : length (pieces w) ≡ n = length-map-range_with_len g 0 n in
    same_lists (pieces w) ps (len ∙ count)
    (λ k d l.
    let below : k < n = omega arith in
    let within : k < length ps = omega arith in
    get_or-map-range_with_len g 0 n k k d below (omega arith)
    ∙ ap (λ t. piece_of (base t) (entry_of w k)) b.tag_is
    ∙ ap (piece_of (base tag)) (entry_written tag work fua ps w k d low f b within)
    ∙ piece_back (base tag) (get_or ps k d) (all_even work ps f k d within).some)

-- the queued command, from its FIS
not_zero : (s : ℕ) → 1 ≤ s → nat_eq s 0 ≡ false
not_zero s h = go (nat_eq s 0) refl
  where
    go : (b : Bool) → nat_eq s 0 ≡ b → nat_eq s 0 ≡ false
    go true e = absurd (let z = eqb-true s 0 e in omega arith)
    go false e = e

sectors_back : (s : ℕ) → 1 ≤ s → s ≤ 65536 → cond (nat_eq (s % 65536) 0) 65536 (s % 65536) ≡ s
sectors_back s some most =
    elim (cases_lt s 65536) [
      | inl less ↦
          let same : s % 65536 ≡ s = omega arith in
          ap (λ n. cond (nat_eq n 0) 65536 n) same ∙ cond-false (nat_eq s 0) 65536 s (not_zero s some)
      | inr all ↦
          let is : 65536 ≡ s = omega arith in
          subst (λ n. cond (nat_eq (n % 65536) 0) 65536 (n % 65536) ≡ n) is refl
    ]

abbrev command : Bool → ℕ → ℕ → ℕ → Bool → QueuedFields
command write tag lba sectors fua = record { write = write; tag = tag; lba = lba; sectors = sectors; fua = fua }

asked_back : (write : Bool) (tag lba sectors : ℕ) (fua : Bool) → tag < 32 → 1 ≤ sectors → sectors ≤ 65536
    → (is_queued (h2d_for (command write tag lba sectors fua)) ≡ true) × (asked_by (h2d_for (command write tag lba sectors fua)) ≡ command write tag lba sectors fua)
asked_back true tag lba sectors true low some most = (refl, (let e : 8 * tag / 8 % 32 ≡ tag = omega arith in rw (e, sectors_back sectors some most) refl))
asked_back true tag lba sectors false low some most = (refl, (let e : 8 * tag / 8 % 32 ≡ tag = omega arith in rw (e, sectors_back sectors some most) refl))
asked_back false tag lba sectors true low some most = (refl, (let e : 8 * tag / 8 % 32 ≡ tag = omega arith in rw (e, sectors_back sectors some most) refl))
asked_back false tag lba sectors false low some most = (refl, (let e : 8 * tag / 8 % 32 ≡ tag = omega arith in rw (e, sectors_back sectors some most) refl))

-- the command FIS of a window that was written
pub cfis_back : (tag : ℕ) (work : Work) (fua : Bool) (ps : List Piece) (w : WindowState) → IsBuilt tag work fua ps w → cfis w ≡ h2d_bytes (h2d_for (queued_for tag work fua))
cfis_back tag work fua ps w b = sym (take-take 20 (entry_place (length ps)) w.bytes (omega arith)) ∙ ap (take 20) b.table_is

pub h2d_back : (tag : ℕ) (work : Work) (fua : Bool) (ps : List Piece) (w : WindowState) → tag < 32 → IsFree work ps → IsBuilt tag work fua ps w → h2d w ≡ h2d_for (queued_for tag work fua)
h2d_back tag work fua ps w low f b =
    let fis = h2d_for (queued_for tag work fua) in
    ap h2d_at (cfis_back tag work fua ps w b) ∙ h2d_at-h2d_bytes fis (omega arith) f.lba (omega arith)

-- what was asked is what the window says
pub queued_back : (tag : ℕ) (work : Work) (fua : Bool) (ps : List Piece) (w : WindowState) → tag < 32 → IsFree work ps → IsBuilt tag work fua ps w → queued_of w ≡ queued_for tag work fua
queued_back tag work fua ps w low f b =
    let some = f.some in
    let most = f.most in
    ap asked_by (h2d_back tag work fua ps w low f b) ∙ (asked_back (is_write work) tag (lba_of work) (sectors_of work) fua low some (omega arith)).1

work_back : (tag : ℕ) (work : Work) (xs : List ℕ) → xs ≡ data_for work → cond (is_write work) (Write (lba_of work) xs) (Read (lba_of work) (sectors_of work)) ≡ work
work_back tag (Read lba sectors) xs e = refl
work_back tag (Write lba bytes) xs e = ap (λ z. Write lba z) e

pub carries_built : (tag : ℕ) (work : Work) (fua : Bool) (ps : List Piece) (w : WindowState) → tag < 32 → IsFree work ps → IsBuilt tag work fua ps w → Carries tag work fua ps w
carries_built tag work fua ps w low f b =
    let q = queued_back tag work fua ps w low f b in
    let list = pieces_back tag work fua ps w low f b in
    let moved : text w ≡ data_for work = ap (λ l. joined l w.bytes) list ∙ b.data_is in
    record {
      tag_is = b.tag_is;
      op_is = ap (λ (a : QueuedFields). cond a.write (Write a.lba (text w)) (Read a.lba a.sectors)) q ∙ work_back tag work (text w) moved;
      queued_is = q;
      pieces_are = list;
    }

-- an entry that was written is a good one
entry_good : (start first last : ℕ) (p : Piece) → start % 2 ≡ 0 → IsEven p → first ≤ p.at → end_of p ≤ last → IsEntry start first last (entry_with start p)
entry_good start first last p aligned even after inside =
    let at = even.at in
    let len = even.len in
    let some = even.some in
    record { even = omega arith; low = refl; odd = omega arith; after = omega arith; within = omega arith }

pub fit_built : (tag : ℕ) (work : Work) (fua : Bool) (ps : List Piece) (w : WindowState) → tag < 32 → IsFree work ps → IsBuilt tag work fua ps w → IsFit w
fit_built tag work fua ps w low f b =
    let n = length ps in
    let hdr = header_back tag work fua ps w low f b in
    let q = queued_back tag work fua ps w low f b in
    let list = pieces_back tag work fua ps w low f b in
    let count : (header_of w).prdtl ≡ n = ap (λ h. h.prdtl) hdr in
    let after = all_after work ps f in
    let below = all_below work ps f in
    let fits : entry_place n ≤ furthest ps = table_fits (entry_place n) ps f.has after in
    let within : furthest ps ≤ 0x04000000 = furthest_within 0x04000000 ps below in
    let len : length w.bytes ≡ furthest ps = b.end_is in
    let has = f.has in
    let few = f.few in
    let some = f.some in
    let most = f.most in
    let asked = (asked_back (is_write work) tag (lba_of work) (sectors_of work) fua low some (omega arith)).0 in
    let fis = h2d_back tag work fua ps w low f b in
    let bytes = cfis_back tag work fua ps w b in
    record {
      header = record {
        cfl = ap (λ h. h.cfl) hdr;
        a = ap (λ h. h.a) hdr;
        r = ap (λ h. h.r) hdr;
        b = ap (λ h. h.b) hdr;
        c = ap (λ h. h.c) hdr;
        some = omega arith;
        most = omega arith;
        ctba = ap (λ h. h.ctba) hdr ∙ ap base (sym b.tag_is);
        ctbau = ap (λ h. h.ctbau) hdr;
        room = omega arith;
        bounded = omega arith;
      };
      command = record {
        spells = ((ap (byte 0) bytes, ap length bytes), refl);
        asks = ap is_queued fis ∙ asked;
        direction = ap (λ h. h.w) hdr ∙ sym (ap (λ a. a.write) q);
      };
      tag = ap (λ a. a.tag) q ∙ sym b.tag_is;
      listed = record {
        entries = λ i l.
            let d : Piece = record { at = 0; len = 0 } in
            let inside : i < length ps = omega arith in
            subst (λ t. IsEntry (base t) (table_end w) (length w.bytes) (entry_of w i)) (sym b.tag_is)
            (subst (λ e. IsEntry (base tag) (table_end w) (length w.bytes) e) (sym (entry_written tag work fua ps w i d low f b inside))
            (entry_good (base tag) (table_end w) (length w.bytes) (get_or ps i d) (omega arith) (all_even work ps f i d inside)
            (let e : entry_place n ≤ (get_or ps i d).at = after i d inside in omega arith)
            (let e : end_of (get_or ps i d) ≤ furthest ps = furthest_covers ps i d inside in omega arith)));
        apart = ap are_apart list ∙ f.apart;
        whole = ap total list ∙ f.sum ∙ ap (λ (a : QueuedFields). 512 * a.sectors) (sym q);
      };
    }

-- one that names no pieces
pub built_over_layout : (layout : PieceLayout) (tag : ℕ) (work : Work) (fua : Bool) (list : List Piece) (w : WindowState) → tag < 32 → IsProper work
    → list ≡ list_of layout (sectors_of work) → IsBuilt tag work fua list w → Carries tag work fua (list_of layout (sectors_of work)) w × IsFit w
built_over_layout layout tag work fua list w low proper is built =
    let ps = list_of layout (sectors_of work) in
    let free = free_from work ps (proper_serves layout work proper) in
    let b = subst (λ l. IsBuilt tag work fua l w) is built in
    (carries_built tag work fua ps w low free b, fit_built tag work fua ps w low free b)
