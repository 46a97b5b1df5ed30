-- A page of a log of the host's is what was written last.
use Rattle.std.proofs.Common.{◌≡◌, ◌∙◌, ℕ, zero, suc, ◌+◌, ◌*◌, ◌<◌, ◌≤◌, Bool, true, false, not, ◌&&◌, cond, List, [], ◌∷◌, ◌++◌, Option, None, Some, ap, drop, filter, if◌then◌else◌, length, map, nat_le, nat_lt, refl, sym, take, arith}
use Rattle.std.specs.Bool.{◌==◌}
use Rattle.std.specs.List.{find, range_with_len}
use Rattle.std.specs.Option.{option_or}
use Rattle.std.proofs.lemmas.Bool.{and_from, and_parts, eq-eqb, eqb-true, le-leb, lt-ltb}
use Rattle.std.proofs.lemmas.List.Folds.{find-append}
use Rattle.hba_command.specs.HostLogs.{bytes_of, host_page, is_one_of, is_page, others, page_of, pages_of, rewritten}
use Rattle.hba_command.specs.HostPages.{HostPagesFields}
use Rattle.hba_command.specs.Uncorrectable.{is_among}
use Rattle.hba_command.specs.declared.host_page.HostPage.{HostPage}

-- ---- what is found in a list of which some are kept

kept_step : {X : Type 0} (p : X → Bool) (x : X) (l r : List X) (b c : Bool) → p x ≡ b → (b ≡ true → c ≡ true) → find p l ≡ find p r → find p (cond c (x ∷ l) l) ≡ find p (x ∷ r)
kept_step p x l r b true e s i = ap (λ o. cond (p x) (Some x) o) i
kept_step p x l r false false e s i = i ∙ sym (ap (λ t. cond t (Some x) (find p r)) e)
kept_step p x l r true false e s i = let never = s refl in cc

find_kept : {X : Type 0} (p q : X → Bool) → ((x : X) → p x ≡ true → q x ≡ true) → (xs : List X) → find p (filter q xs) ≡ find p xs
find_kept p q keeps [] = refl
find_kept p q keeps (x ∷ xs) = kept_step p x (filter q xs) xs (p x) (q x) refl (keeps x) (find_kept p q keeps xs)

none_step : {X : Type 0} (p : X → Bool) (x : X) (l : List X) (b c : Bool) → p x ≡ b → (b ≡ true → c ≡ false) → find p l ≡ None → find p (cond c (x ∷ l) l) ≡ None
none_step p x l b false e s i = i
none_step p x l false true e s i = ap (λ t. cond t (Some x) (find p l)) e ∙ i
none_step p x l true true e s i = let never = s refl in cc

find_none : {X : Type 0} (p q : X → Bool) → ((x : X) → p x ≡ true → q x ≡ false) → (xs : List X) → find p (filter q xs) ≡ None
find_none p q drops [] = refl
find_none p q drops (x ∷ xs) = none_step p x (filter q xs) (p x) (q x) refl (drops x) (find_none p q drops xs)

-- ---- and in a list of some numbers' values

find_no_number : {X : Type 0} (p : X → Bool) (f : ℕ → X) (a n : ℕ) → ((k : ℕ) → a ≤ k → k < a + n → p (f k) ≡ false) → find p (map f (range_with_len a n)) ≡ None
find_no_number p f a zero h = refl
find_no_number p f a (suc n) h =
    ap (λ t. cond t (Some (f a)) (find p (map f (range_with_len (a + 1) n)))) (h a (omega arith) (omega arith))
    ∙ find_no_number p f (a + 1) n (λ k l m. h k (omega arith) (omega arith))

other_number : {X : Type 0} (p : X → Bool) (f : ℕ → X) (a i : ℕ) → p (f a) ≡ false → p (f i) ≡ true → a ≡ i → ⊥
other_number p f a i e at same = let here = ap (λ k. p (f k)) same in cc

number_step : {X : Type 0} (p : X → Bool) (f : ℕ → X) (a i : ℕ) (rest : Option X) (b : Bool) → p (f a) ≡ b → (p (f a) ≡ true → a ≡ i) → p (f i) ≡ true → ((a ≡ i → ⊥) → rest ≡ Some (f i))
    → cond (p (f a)) (Some (f a)) rest ≡ Some (f i)
number_step p f a i rest true e only at go = ap (λ t. cond t (Some (f a)) rest) e ∙ ap (λ k. Some (f k)) (only e)
number_step p f a i rest false e only at go = ap (λ t. cond t (Some (f a)) rest) e ∙ go (other_number p f a i e at)

find_number : {X : Type 0} (p : X → Bool) (f : ℕ → X) (a n i : ℕ) → ((k : ℕ) → p (f k) ≡ true → k ≡ i) → p (f i) ≡ true → a ≤ i → i < a + n → find p (map f (range_with_len a n)) ≡ Some (f i)
find_number p f a zero i only at l m = absurd (omega arith)
find_number p f a (suc n) i only at l m =
    number_step p f a i (find p (map f (range_with_len (a + 1) n))) (p (f a)) refl (only a) at (λ other. find_number p f (a + 1) n i only at (omega arith) (omega arith))

-- ---- pages

-- the page that is looked for is one of those that are written, or none
says_which : (pages : HostPagesFields) (log number : ℕ) (x : HostPage) → is_page log number x ≡ true → is_one_of pages x ≡ (log == pages.log && is_among pages.first pages.count number)
says_which pages log number x e =
    let p = and_parts (x.log == log) (x.number == number) e in
    ap (λ l. l == pages.log && is_among pages.first pages.count x.number) (eqb-true x.log log p.0)
    ∙ ap (λ n. log == pages.log && is_among pages.first pages.count n) (eqb-true x.number number p.1)

or_none : {X : Type 0} (o : Option X) → option_or o None ≡ o
or_none None = refl
or_none (Some x) = refl

is_rewritten : (pages : HostPagesFields) (bytes : List ℕ) (written : List HostPage) → length bytes ≡ 512 * pages.count
    → rewritten pages bytes written ≡ others pages written ++ pages_of pages bytes pages.count
is_rewritten pages bytes written e =
    ap (λ b. if b then others pages written ++ pages_of pages bytes pages.count else written) (eq-eqb (length bytes) (512 * pages.count) e)

-- what is found there
found_in : (pages : HostPagesFields) (bytes : List ℕ) (written : List HostPage) (log number : ℕ) → length bytes ≡ 512 * pages.count
    → host_page (rewritten pages bytes written) log number
    ≡ bytes_of (option_or (find (is_page log number) (others pages written)) (find (is_page log number) (pages_of pages bytes pages.count)))
found_in pages bytes written log number e =
    ap (λ l. bytes_of (find (is_page log number) l)) (is_rewritten pages bytes written e)
    ∙ ap (λ o. bytes_of o) (find-append (is_page log number) (others pages written) (pages_of pages bytes pages.count))

is_one : (first count index : ℕ) → index < count → is_among first count (first + index) ≡ true
is_one first count index l =
    and_from (nat_le first (first + index)) (nat_lt (first + index) (first + count)) (le-leb first (first + index) (omega arith)) (lt-ltb (first + index) (first + count) (omega arith))

-- a page that is written has its bytes of the data
pub reads_back : (pages : HostPagesFields) (bytes : List ℕ) (written : List HostPage) → length bytes ≡ 512 * pages.count
    → (index : ℕ) → index < pages.count → host_page (rewritten pages bytes written) pages.log (pages.first + index) ≡ take 512 (drop (512 * index) bytes)
reads_back pages bytes written e index l =
    found_in pages bytes written log number e
    ∙ ap (λ o. bytes_of (option_or o (find (is_page log number) (pages_of pages bytes pages.count)))) no_other
    ∙ ap (λ o. bytes_of o) own
  where
    log : ℕ
    log = pages.log

    number : ℕ
    number = pages.first + index

    is_own : (log == pages.log && is_among pages.first pages.count number) ≡ true
    is_own = and_from (log == pages.log) (is_among pages.first pages.count number) (eq-eqb log log refl) (is_one pages.first pages.count index l)

    no_other : find (is_page log number) (others pages written) ≡ None
    no_other = find_none (is_page log number) (λ x. not (is_one_of pages x)) (λ x t. ap (λ b. not b) (says_which pages log number x t ∙ is_own)) written

    same : (k : ℕ) → is_page log number (page_of pages bytes k) ≡ true → k ≡ index
    same k t = let s = eqb-true (pages.first + k) number ((and_parts (log == log) (pages.first + k == number) t).1) in omega arith

    own : find (is_page log number) (pages_of pages bytes pages.count) ≡ Some (page_of pages bytes index)
    own =
        find_number (is_page log number) (page_of pages bytes) 0 pages.count index same
        (and_from (log == log) (number == number) (eq-eqb log log refl) (eq-eqb number number refl)) (omega arith) (omega arith)

-- and each other page is as before
pub stays : (pages : HostPagesFields) (bytes : List ℕ) (written : List HostPage) → length bytes ≡ 512 * pages.count
    → (log number : ℕ) → (log == pages.log && is_among pages.first pages.count number) ≡ false
    → host_page (rewritten pages bytes written) log number ≡ host_page written log number
stays pages bytes written e log number other =
    found_in pages bytes written log number e
    ∙ ap (λ o. bytes_of (option_or (find (is_page log number) (others pages written)) o)) none_new
    ∙ ap (λ o. bytes_of o) (or_none (find (is_page log number) (others pages written)))
    ∙ ap (λ o. bytes_of o) kept
  where
    kept : find (is_page log number) (others pages written) ≡ find (is_page log number) written
    kept = find_kept (is_page log number) (λ x. not (is_one_of pages x)) (λ x t. ap (λ b. not b) (says_which pages log number x t ∙ other)) written

    not_new : (k : ℕ) (b : Bool) → k < pages.count → is_page log number (page_of pages bytes k) ≡ b → is_page log number (page_of pages bytes k) ≡ false
    not_new k false l t = t
    not_new k true l t =
        let none = says_which pages log number (page_of pages bytes k) t ∙ other in
        let one = and_from (pages.log == pages.log) (is_among pages.first pages.count (pages.first + k)) (eq-eqb pages.log pages.log refl) (is_one pages.first pages.count k l) in
        cc

    none_new : find (is_page log number) (pages_of pages bytes pages.count) ≡ None
    none_new =
        find_no_number (is_page log number) (page_of pages bytes) 0 pages.count
        (λ k l m. not_new k (is_page log number (page_of pages bytes k)) (omega arith) refl)
