-- Which entries of a PRDT a transfer has done with.
use Rattle.std.proofs.Common.{◌≡◌, ℕ, zero, suc, ◌+◌, ◌-◌, ◌*◌, ◌<◌, ◌≤◌, ◌↔◌, Bool, true, false, ◌&&◌, ◌||◌, nat_le, List, [], ◌∷◌, ◌++◌, ◌⊎◌, inl, inr, length, take, drop, get_or, ap, sym, refl, ◌∙◌, arith}
use Rattle.std.specs.List.{list_all}
use Rattle.std.proofs.Math.Bool.{or-true, or_assoc}
use Rattle.std.proofs.lemmas.Bool.{and_parts, cases_lt, le-leb, leb-true, lt-leb}
use Rattle.std.proofs.lemmas.List.{drop_all, drop_more}
use Rattle.std.proofs.lemmas.List.Sums.{sum_by-cons}
use Rattle.hba_command.specs.declared.entry.PrdEntry.{PrdEntry}
use Rattle.hba_memory.specs.Blocks.{list_after, no_entry, shortened}
use Rattle.hba_memory.proofs.BlockLemmas.{past_entry, within_entry}
use Rattle.hba_memory.specs.Processing.{has_processed, Processes}
use Rattle.hba_memory.specs.Runs.{total}

whole_entry : (e : PrdEntry) (rest : List PrdEntry) (n : ℕ) → e.length ≤ n → has_processed (e ∷ rest) n ≡ (e.interrupt || has_processed rest (n - e.length))
whole_entry e rest n h = rw (le-leb e.length n h) refl

part_entry : (e : PrdEntry) (rest : List PrdEntry) (n : ℕ) → n < e.length → has_processed (e ∷ rest) n ≡ false
part_entry e rest n h = rw (lt-leb e.length n h) refl

-- ---- the entries one after the other

-- behind the last entry there is none
pub none_left : (list : List PrdEntry) (i n : ℕ) → length list ≤ i → has_processed (drop i list) n ≡ false
none_left list i n h = ap (λ l. has_processed l n) (drop_all i list h)

-- the data end in an entry
pub not_whole : (list : List PrdEntry) (i n : ℕ) → i < length list → n < (get_or list i no_entry).length → has_processed (drop i list) n ≡ false
not_whole list i n h lt = ap (λ l. has_processed l n) (drop_more list i no_entry h) ∙ part_entry (get_or list i no_entry) (drop (i + 1) list) n lt

-- an entry has moved, with I or without
pub one_with : (list : List PrdEntry) (i n : ℕ) → i < length list → (get_or list i no_entry).length ≤ n → (get_or list i no_entry).interrupt ≡ true
    → has_processed (drop i list) n ≡ true
one_with list i n h le is =
    let e = get_or list i no_entry in
    ap (λ l. has_processed l n) (drop_more list i no_entry h)
    ∙ whole_entry e (drop (i + 1) list) n le
    ∙ ap (λ b. b || has_processed (drop (i + 1) list) (n - e.length)) is

pub one_without : (list : List PrdEntry) (i n : ℕ) → i < length list → (get_or list i no_entry).length ≤ n → (get_or list i no_entry).interrupt ≡ false
    → has_processed (drop i list) n ≡ has_processed (drop (i + 1) list) (n - (get_or list i no_entry).length)
one_without list i n h le is =
    let e = get_or list i no_entry in
    ap (λ l. has_processed l n) (drop_more list i no_entry h)
    ∙ whole_entry e (drop (i + 1) list) n le
    ∙ ap (λ b. b || has_processed (drop (i + 1) list) (n - e.length)) is

-- ---- an entry that has moved whole can be named

names : (list : List PrdEntry) (n : ℕ) → has_processed list n ≡ true → Processes list n
names [] n h = cc
names (e ∷ rest) n h = by (names rest (n - e.length)) (nat_le e.length n) e.interrupt refl refl h
  where
    by : (has_processed rest (n - e.length) ≡ true → Processes rest (n - e.length)) → (b i : Bool) → nat_le e.length n ≡ b → e.interrupt ≡ i
        → (b && (i || has_processed rest (n - e.length))) ≡ true → Processes (e ∷ rest) n
    by later false i le is h = cc
    by later true true le is h = record {
      before = [];
      entry = e;
      after = rest;
      place = refl;
      interrupt = is;
      whole = (let l = leb-true e.length n le in omega arith);
    }
    by later true false le is h =
        let p : Processes rest (n - e.length) = later h in
        record {
          before = e ∷ p.before;
          entry = p.entry;
          after = p.after;
          place = ap (λ l. e ∷ l) p.place;
          interrupt = p.interrupt;
          whole = (let l = leb-true e.length n le in let s = sum_by-cons (λ e. e.length) e p.before in let w = p.whole in omega arith);
        }

named_at : (before : List PrdEntry) (e : PrdEntry) (after : List PrdEntry) (n : ℕ) → e.interrupt ≡ true → total before + e.length ≤ n
    → has_processed (before ++ e ∷ after) n ≡ true
named_at [] e after n is h = whole_entry e after n (omega arith) ∙ ap (λ b. b || has_processed after (n - e.length)) is
named_at (x ∷ before) e after n is h =
    let s : total (x ∷ before) ≡ x.length + total before = sum_by-cons (λ e. e.length) x before in
    whole_entry x (before ++ e ∷ after) n (omega arith)
    ∙ ap (λ b. x.interrupt || b) (named_at before e after (n - x.length) is (omega arith))
    ∙ or-true x.interrupt

pub by_an_entry : (list : List PrdEntry) (n : ℕ) → has_processed list n ≡ true ↔ Processes list n
by_an_entry list n =
    ((λ h. names list n h), (λ p. ap (λ l. has_processed l n) p.place ∙ named_at p.before p.entry p.after n p.interrupt p.whole))

-- ---- data that move in two parts

pub in_two_parts : (list : List PrdEntry) (n m : ℕ) → has_processed list (n + m) ≡ (has_processed list n || has_processed (list_after list n) m)
in_two_parts [] n m = refl
in_two_parts (e ∷ rest) n m = by (in_two_parts rest (n - e.length) m) (cases_lt n e.length)
  where
    -- the second part begins in the entry, which moves whole with it or doesn't
    splits : n < e.length → (n + m < e.length) ⊎ (e.length ≤ n + m) → has_processed (e ∷ rest) (n + m) ≡ has_processed (shortened e n ∷ rest) m
    splits lt (inl more) = part_entry e rest (n + m) more ∙ sym (part_entry (shortened e n) rest m (omega arith))
    splits lt (inr le) =
        whole_entry e rest (n + m) le
        ∙ ap (λ k. e.interrupt || has_processed rest k) {x = n + m - e.length} {y = m - (e.length - n)} (omega arith)
        ∙ sym (whole_entry (shortened e n) rest m (omega arith))

    by : has_processed rest (n - e.length + m) ≡ (has_processed rest (n - e.length) || has_processed (list_after rest (n - e.length)) m)
        → (n < e.length) ⊎ (e.length ≤ n) → has_processed (e ∷ rest) (n + m) ≡ (has_processed (e ∷ rest) n || has_processed (list_after (e ∷ rest) n) m)
    by later (inl lt) =
        splits lt (cases_lt (n + m) e.length)
        ∙ sym
        (ap (λ b. b || has_processed (list_after (e ∷ rest) n) m) (part_entry e rest n lt)
        ∙ ap (λ l. has_processed l m) (within_entry e rest n lt))
    by later (inr le) =
        whole_entry e rest (n + m) (omega arith)
        ∙ ap (λ k. e.interrupt || has_processed rest k) {x = n + m - e.length} {y = n - e.length + m} (omega arith)
        ∙ ap (λ b. e.interrupt || b) later
        ∙ sym (or_assoc e.interrupt (has_processed rest (n - e.length)) (has_processed (list_after rest (n - e.length)) m))
        ∙ sym
        (ap (λ b. b || has_processed (list_after (e ∷ rest) n) m) (whole_entry e rest n le)
        ∙ ap (λ l. (e.interrupt || has_processed rest (n - e.length)) || has_processed l m) (past_entry e rest n le))

-- ---- the entries for a block

pub enough : (list : List PrdEntry) (j n : ℕ) → list_all (λ e. nat_le 2 e.length) list ≡ true → n < 2 * (j + 1) → has_processed (take j list) n ≡ has_processed list n
enough [] zero n h lt = refl
enough [] (suc j) n h lt = refl
enough (e ∷ rest) zero n h lt =
    sym (part_entry e rest n (let l = leb-true 2 e.length (and_parts (nat_le 2 e.length) (list_all (λ e. nat_le 2 e.length) rest) h).0 in omega arith))
enough (e ∷ rest) (suc j) n h lt = by (enough rest j (n - e.length)) (cases_lt n e.length)
  where
    parts : (nat_le 2 e.length ≡ true) × (list_all (λ e. nat_le 2 e.length) rest ≡ true)
    parts = and_parts (nat_le 2 e.length) (list_all (λ e. nat_le 2 e.length) rest) h

    by : (list_all (λ e. nat_le 2 e.length) rest ≡ true → n - e.length < 2 * (j + 1)
        → has_processed (take j rest) (n - e.length) ≡ has_processed rest (n - e.length))
        → (n < e.length) ⊎ (e.length ≤ n) → has_processed (e ∷ take j rest) n ≡ has_processed (e ∷ rest) n
    by later (inl more) = part_entry e (take j rest) n more ∙ sym (part_entry e rest n more)
    by later (inr le) =
        whole_entry e (take j rest) n le
        ∙ ap (λ b. e.interrupt || b) (later parts.1 (let l = leb-true 2 e.length parts.0 in omega arith))
        ∙ sym (whole_entry e rest n le)
