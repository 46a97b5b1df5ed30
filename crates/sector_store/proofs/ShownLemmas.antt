-- Sectors joined to an image.
use Rattle.std.proofs.Common.{◌≡◌, ℕ, ◌+◌, ◌-◌, ◌*◌, ◌/◌, ◌%◌, ◌<◌, ◌≤◌, List, [], ◌++◌, length, take, drop, Option, None, Some, ap, sym, ◌∙◌, arith, inl, inr, cond, ◌&&◌, leb, ltb, eqb, refl, zero, suc, length-append, length-drop, length-take}
use Rattle.std.proofs.lemmas.Bool.{cases_lt, cases_eq, cond-true, cond-false, and_from, and_right, le-leb, lt-ltb, le-ltb, eq-eqb, ne_eqb}
use Rattle.std.proofs.lemmas.List.{take_all, take_at, drop_all, take-take, drop-drop, drop-take}
use Rattle.std.proofs.Math.Seq.{drop-append-add}
use Rattle.std.specs.List.{flat_map, range_with_len}
use Rattle.std.specs.Option.{IfSome}
use borrow.Rule.Slice.PartMut.{put_mid}
use Rattle.ncq_journal.specs.Image.{sector_at, IsWrittenOver}
use Rattle.ncq_journal.proofs.ImageLemmas.{joined-sectors}
use Rattle.sector_store.specs.Layers.{Layers, page_or, page_now}
use Rattle.sector_store.specs.Slots.{layers_of}
use Rattle.sector_store.specs.Shown.{sector_over, sector_now, sector_kept, joined, AreRead, HasWholePages, IsWrittenAt, AreWrittenAt}
use Rattle.sector_store.proofs.SectorLemmas.{sector_at-put_one}

-- every sector has 512 bytes
abbrev pub AreSectors : (ℕ → List ℕ) → Type 0
AreSectors f = (s : ℕ) → length (f s) ≡ 512

flat_map-same : (f g : ℕ → List ℕ) (a b n : ℕ) → ((k : ℕ) → k < n → f (a + k) ≡ g (b + k)) → flat_map f (range_with_len a n) ≡ flat_map g (range_with_len b n)
flat_map-same f g a b zero same = refl
flat_map-same f g a b (suc n) same =
    let start : a + 0 ≡ a = omega arith in
    let start' : b + 0 ≡ b = omega arith in
    let first : f a ≡ g b = ap f (sym start) ∙ same 0 (omega arith) ∙ ap g start' in
    let rest : flat_map f (range_with_len (a + 1) n) ≡ flat_map g (range_with_len (b + 1) n) = flat_map-same f g (a + 1) (b + 1) n (λ k l. further k l) in
    ap (λ x. x ++ flat_map f (range_with_len (a + 1) n)) first ∙ ap (λ x. g b ++ x) rest
  where
    further : (k : ℕ) → k < n → f (a + 1 + k) ≡ g (b + 1 + k)
    further k l =
        let left : a + 1 + k ≡ a + (k + 1) = omega arith in
        let right : b + (k + 1) ≡ b + 1 + k = omega arith in
        ap f left ∙ same (k + 1) (omega arith) ∙ ap g right

-- the same sectors make the same image
pub joined_same : (f g : ℕ → List ℕ) (n : ℕ) → ((s : ℕ) → f s ≡ g s) → joined f n ≡ joined g n
unfolding joined
joined_same f g n same = flat_map-same f g 0 0 n (λ k l. same (0 + k))

length-sectors : (f : ℕ → List ℕ) → AreSectors f → (a n : ℕ) → length (flat_map f (range_with_len a n)) ≡ 512 * n
length-sectors f size a zero = refl
length-sectors f size a (suc n) =
    let more : 512 + 512 * n ≡ 512 * suc n = omega arith in
    length-append (f a) (flat_map f (range_with_len (a + 1) n)) ∙ ap (λ k. k + length (flat_map f (range_with_len (a + 1) n))) (size a) ∙ ap (λ k. 512 + k) (length-sectors f size (a + 1) n) ∙ more

pub length-joined : (f : ℕ → List ℕ) (n : ℕ) → AreSectors f → length (joined f n) ≡ 512 * n
unfolding joined
length-joined f n size = length-sectors f size 0 n

sector_at-sectors : (f : ℕ → List ℕ) → AreSectors f → (n a s : ℕ) → s < n → sector_at (flat_map f (range_with_len a n)) s ≡ f (a + s)
sector_at-sectors f size zero a s l = absurd (omega arith)
sector_at-sectors f size (suc n) a zero l =
    let start : a ≡ a + 0 = omega arith in
    take_at (f a) (flat_map f (range_with_len (a + 1) n)) 512 (size a) ∙ ap f start
sector_at-sectors f size (suc n) a (suc s) l =
    let rest = flat_map f (range_with_len (a + 1) n) in
    let place : 512 * suc s ≡ length (f a) + 512 * s = omega (arith, size a) in
    let number : a + 1 + s ≡ a + suc s = omega arith in
    ap (λ k. take 512 (drop k (f a ++ rest))) place
    ∙ ap (take 512) (drop-append-add (f a) rest (512 * s))
    ∙ sector_at-sectors f size n (a + 1) s (omega arith)
    ∙ ap f number

pub sector_at-joined : (f : ℕ → List ℕ) (n s : ℕ) → AreSectors f → s < n → sector_at (joined f n) s ≡ f s
unfolding joined
sector_at-joined f n s size l = sector_at-sectors f size n 0 s l ∙ ap f (let e : 0 + s ≡ s = omega arith in e)

-- there are no bytes past the end
pub sector_at-past : (xs : List ℕ) (s : ℕ) → length xs ≤ 512 * s → sector_at xs s ≡ []
sector_at-past xs s past = ap (take 512) (drop_all (512 * s) xs past)

-- where two images of one size have the same sector
pub same_sector : (f g : ℕ → List ℕ) (n s : ℕ) → AreSectors f → AreSectors g → f s ≡ g s → sector_at (joined f n) s ≡ sector_at (joined g n) s
same_sector f g n s size size' same =
    elim (cases_lt s n) [
      | inl inside ↦ sector_at-joined f n s size inside ∙ same ∙ sym (sector_at-joined g n s size' inside)
      | inr past ↦ sector_at-past (joined f n) s (omega (arith, length-joined f n size)) ∙ sym (sector_at-past (joined g n) s (omega (arith, length-joined g n size')))
    ]

-- sectors whose bytes are inside an image are among its sectors
pub inside_joined : (f : ℕ → List ℕ) (n end : ℕ) → AreSectors f → 512 * end ≤ length (joined f n) → end ≤ n
inside_joined f n end size fits = let len = length-joined f n size in omega arith

-- the same of a buffer of whole sectors
pub buffer_inside : (f : ℕ → List ℕ) (n lba len : ℕ) → AreSectors f → len ≡ 512 * (len / 512) → 512 * lba + len ≤ length (joined f n) → lba + len / 512 ≤ n
buffer_inside f n lba len size whole fits = inside_joined f n (lba + len / 512) size (omega arith)

-- a buffer with so many sectors of an image is that part of the image
pub read-joined : (f : ℕ → List ℕ) (n lba len : ℕ) (out : List ℕ) → AreSectors f → len ≡ 512 * (len / 512) → 512 * lba + len ≤ length (joined f n)
    → length out ≡ len → AreRead f lba out → out ≡ take len (drop (512 * lba) (joined f n))
read-joined f n lba len out size whole fits long each =
    let image = joined f n in
    let k = len / 512 in
    sym (take_all (512 * k) out (omega arith))
    ∙ joined-sectors (sector_at out) out (λ s. refl) 0 k
    ∙ flat_map-same (sector_at out) (sector_at image) 0 lba k (λ i l. one i l)
    ∙ sym (joined-sectors (sector_at image) image (λ s. refl) lba k)
    ∙ ap (λ m. take m (drop (512 * lba) image)) (sym whole)
  where
    one : (i : ℕ) → i < len / 512 → sector_at out (0 + i) ≡ sector_at (joined f n) (lba + i)
    one i l =
        let inside : lba + len / 512 ≤ n = buffer_inside f n lba len size whole fits in
        ap (sector_at out) (let e : 0 + i ≡ i = omega arith in e) ∙ each i (omega arith) ∙ sym (sector_at-joined f n (lba + i) size (omega arith))

-- if there is such a buffer, it is that part
pub if-read-joined : (found : Option (List ℕ)) (f : ℕ → List ℕ) (n lba len : ℕ) → AreSectors f → len ≡ 512 * (len / 512) → 512 * lba + len ≤ length (joined f n)
    → IfSome found (AreRead f lba) → IfSome found (λ bytes. length bytes ≡ len) → IfSome found (λ bytes. bytes ≡ take len (drop (512 * lba) (joined f n)))
if-read-joined None f n lba len size whole fits each long = Prim.tt
if-read-joined (Some bytes) f n lba len size whole fits each long = read-joined f n lba len bytes size whole fits long each

-- two images of as many sectors are of one length
pub length-joined_same : (f g : ℕ → List ℕ) (n : ℕ) → AreSectors f → AreSectors g → length (joined g n) ≡ length (joined f n)
length-joined_same f g n size size' = length-joined g n size' ∙ sym (length-joined f n size)

-- each sector once some were written
pub written-joined : (f g : ℕ → List ℕ) (n lba : ℕ) (bytes : List ℕ) → AreSectors f → AreSectors g → length bytes ≡ 512 * (length bytes / 512)
    → 512 * lba + length bytes ≤ length (joined f n) → ((s : ℕ) → g s ≡ cond (leb lba s && ltb s (lba + length bytes / 512)) (sector_at bytes (s - lba)) (f s)) → IsWrittenOver lba bytes (joined f n) (joined g n)
written-joined f g n lba bytes size size' whole fits each s =
    let inside : lba + length bytes / 512 ≤ n = buffer_inside f n lba (length bytes) size whole fits in
    let test = leb lba s && ltb s (lba + length bytes / 512) in
    elim (cases_lt s n) [
      | inl inside ↦ sector_at-joined g n s size' inside ∙ each s ∙ ap (cond test (sector_at bytes (s - lba))) (sym (sector_at-joined f n s size inside))
      | inr past ↦
          sector_at-past (joined g n) s (omega (arith, length-joined g n size'))
          ∙ sym (sector_at-past (joined f n) s (omega (arith, length-joined f n size)))
          ∙ sym (cond-false test (sector_at bytes (s - lba)) (sector_at (joined f n) s) (and_right (leb lba s) (ltb s (lba + length bytes / 512)) (le-ltb s (lba + length bytes / 512) (omega arith))))
    ]

length-sector_at : (page : List ℕ) (place : ℕ) → place < 8 → length page ≡ 4096 → length (sector_at page place) ≡ 512
length-sector_at page place below len =
    let rest = length-drop (512 * place) page in
    length-take 512 (drop (512 * place) page) ∙ (omega arith)

sized_over : (page : Option (List ℕ)) (below : List ℕ) (lba : ℕ) → ((p : List ℕ) → page ≡ Some p → length p ≡ 4096) → length below ≡ 512 → length (sector_over page below lba) ≡ 512
sized_over None below lba whole size = size
sized_over (Some p) below lba whole size = length-sector_at p (lba % 8) (omega arith) (whole p refl)

whole_or : (upper lower : Option (List ℕ)) → ((p : List ℕ) → upper ≡ Some p → length p ≡ 4096) → ((p : List ℕ) → lower ≡ Some p → length p ≡ 4096)
    → (p : List ℕ) → page_or upper lower ≡ Some p → length p ≡ 4096
whole_or None lower up low p is = low p is
whole_or (Some page) lower up low p is = up p is

pub whole_now : (slots : ℕ → Option Layers) → HasWholePages slots → (q : ℕ) (p : List ℕ) → page_now (layers_of (slots q)) ≡ Some p → length p ≡ 4096
whole_now slots whole q = whole_or (layers_of (slots q)).upper (layers_of (slots q)).lower (whole.upper q) (whole.lower q)

pub are_sectors_now : (below : ℕ → List ℕ) (slots : ℕ → Option Layers) → AreSectors below → HasWholePages slots → AreSectors (sector_now below slots)
are_sectors_now below slots size whole s = sized_over (page_now (layers_of (slots (s / 8)))) (below s) s (whole_now slots whole (s / 8)) (size s)

pub are_sectors_kept : (below : ℕ → List ℕ) (slots : ℕ → Option Layers) → AreSectors below → HasWholePages slots → AreSectors (sector_kept below slots)
are_sectors_kept below slots size whole s = sized_over (layers_of (slots (s / 8))).lower (below s) s (whole.lower (s / 8)) (size s)

part_of_page : (page : List ℕ) (first n i : ℕ) → 512 * i + 512 ≤ n → sector_at (take n (drop (512 * first) page)) i ≡ sector_at page (first + i)
part_of_page page first n i fits =
    let rest : n ≡ 512 * i + (n - 512 * i) = omega arith in
    let place : 512 * first + 512 * i ≡ 512 * (first + i) = omega arith in
    let from = drop (512 * first) page in
    ap (λ k. take 512 (drop (512 * i) (take k from))) rest
    ∙ ap (take 512) (drop-take (512 * i) (n - 512 * i) from)
    ∙ take-take 512 (n - 512 * i) (drop (512 * i) from) (omega arith)
    ∙ ap (take 512) (drop-drop (512 * i) (512 * first) page ∙ ap (λ k. drop k page) place)

-- bytes that are cut out of one page have its sectors
pub page_run : (below : ℕ → List ℕ) (slots : ℕ → Option Layers) (page bytes : List ℕ) (lba n : ℕ) → page_now (layers_of (slots (lba / 8))) ≡ Some page → length page ≡ 4096
    → n + lba % 8 * 512 ≤ 4096 → bytes ≡ take n (drop (512 * (lba % 8)) page) → (i : ℕ) → i < length bytes / 512 → sector_at bytes i ≡ sector_now below slots (lba + i)
page_run below slots page bytes lba n is whole fits cut i inside =
    let len : length bytes ≡ n = ap length cut ∙ length-take n (drop (512 * (lba % 8)) page) ∙ (let d = length-drop (512 * (lba % 8)) page in omega arith) in
    let same : lba / 8 ≡ (lba + i) / 8 = omega arith in
    let place : lba % 8 + i ≡ (lba + i) % 8 = omega arith in
    let over = λ (q : ℕ). sector_over (page_now (layers_of (slots q))) (below (lba + i)) (lba + i) in
    ap (λ xs. sector_at xs i) cut
    ∙ part_of_page page (lba % 8) n i (omega arith)
    ∙ ap (sector_at page) place
    ∙ sym (ap (λ p. sector_over p (below (lba + i)) (lba + i)) is)
    ∙ ap over same

-- one more sector in a buffer
pub read_more : (f : ℕ → List ℕ) (lba k m : ℕ) (out part : List ℕ) → m ≡ 512 → length part ≡ 512 → k * 512 + 512 ≤ length out → part ≡ f (lba + k)
    → ((i : ℕ) → i < k → sector_at out i ≡ f (lba + i)) → (i : ℕ) → i < k + 1 → sector_at (put_mid (k * 512) m out part) i ≡ f (lba + i)
read_more f lba k m out part size len fits is before i below =
    elim (cases_eq i k) [
      | inl same ↦
          sector_at-put_one k m out part size len fits i ∙ cond-true (eqb i k) part (sector_at out i) (eq-eqb i k same) ∙ is ∙ ap (λ j. f (lba + j)) (sym same)
      | inr other ↦
          sector_at-put_one k m out part size len fits i ∙ cond-false (eqb i k) part (sector_at out i) (ne_eqb i k other) ∙ before i (omega arith)
    ]

test_more : (lba k s : ℕ) → (s ≡ lba + k → ⊥) → (leb lba s && ltb s (lba + k)) ≡ (leb lba s && ltb s (lba + (k + 1)))
test_more lba k s other =
    elim (cases_lt s (lba + k)) [
      | inl below ↦ ap (λ b. leb lba s && b) (lt-ltb s (lba + k) below ∙ sym (lt-ltb s (lba + (k + 1)) (omega arith)))
      | inr above ↦ ap (λ b. leb lba s && b) (le-ltb s (lba + k) above ∙ sym (le-ltb s (lba + (k + 1)) (omega arith)))
    ]

-- one more sector is written
pub written_more : (lba k : ℕ) (bytes part : List ℕ) (a b c : ℕ → Option Layers) → part ≡ sector_at bytes k → AreWrittenAt lba k bytes a b → IsWrittenAt (lba + k) part b c
    → AreWrittenAt lba (k + 1) bytes a c
written_more lba k bytes part a b c is before one = record {
  now = λ below s. one.now below s ∙ step below s;
  kept = λ below s. one.kept below s ∙ before.kept below s;
  stay = λ q was. one.stay q (before.stay q was);
}
  where
    step : (below : ℕ → List ℕ) (s : ℕ) → cond (eqb s (lba + k)) part (sector_now below b s) ≡ cond (leb lba s && ltb s (lba + (k + 1))) (sector_at bytes (s - lba)) (sector_now below a s)
    step below s =
        elim (cases_eq s (lba + k)) [
          | inl same ↦
              let place : k ≡ s - lba = omega arith in
              cond-true (eqb s (lba + k)) part (sector_now below b s) (eq-eqb s (lba + k) same)
              ∙ is
              ∙ ap (sector_at bytes) place
              ∙ sym (cond-true (leb lba s && ltb s (lba + (k + 1))) (sector_at bytes (s - lba)) (sector_now below a s) (and_from (leb lba s) (ltb s (lba + (k + 1))) (le-leb lba s (omega arith)) (lt-ltb s (lba + (k + 1)) (omega arith))))
          | inr other ↦
              cond-false (eqb s (lba + k)) part (sector_now below b s) (ne_eqb s (lba + k) other)
              ∙ before.now below s
              ∙ ap (λ t. cond t (sector_at bytes (s - lba)) (sector_now below a s)) (test_more lba k s other)
        ]

-- a part of some bytes that is one sector
pub part_is_sector : (bytes : List ℕ) (k m : ℕ) → m ≡ 512 → take m (drop (k * 512) bytes) ≡ sector_at bytes k
part_is_sector bytes k m size = ap (λ n. take n (drop (k * 512) bytes)) size ∙ ap (λ n. take 512 (drop n bytes)) (let e : k * 512 ≡ 512 * k = omega arith in e)
