-- The runs and the bytes that are left after an entry's place.
use Rattle.std.proofs.Common.{◌≡◌, ℕ, suc, ◌+◌, ◌-◌, ◌<◌, ◌≤◌, min, List, [], ◌∷◌, ◌++◌, length, take, drop, map, get_or, zero, false, nat_eq, ap, sym, refl, ◌∙◌, ◌⊎◌, inl, inr, arith}
use Rattle.std.proofs.lemmas.List.{drop_more, drop_all, length-drop, nil_from_length, take-append-drop, drop-drop, drop_min, take_min, length-take}
use Rattle.std.proofs.lemmas.Bool.{cases_lt}
use Rattle.std.proofs.Math.Dec.{eqb-suc-zero}
use Rattle.std.proofs.lemmas.List.Sums.{sum_by-cons}
use Rattle.std.specs.List.{concat}
use Rattle.hba_command.specs.declared.entry.PrdEntry.{PrdEntry}
use Rattle.hba_memory.specs.Runs.{Run, Put, first_put, first_run, later_puts, later_runs, runs, placed, run_of, total}

zero_or_more : (n : ℕ) → (n ≡ 0) ⊎ (0 < n)
zero_or_more zero = inl refl
zero_or_more (suc n) = inr (omega arith)

pub positive : (n : ℕ) → (n ≡ 0 → ⊥) → 0 < n
positive zero h = absurd (h refl)
positive (suc n) h = omega arith

-- an entry of no bytes, for places after the last one
abbrev pub no_entry : PrdEntry
no_entry = record { address = 0; length = 0; interrupt = false }

not_zero : (n : ℕ) → 0 < n → nat_eq n 0 ≡ false
not_zero zero h = absurd (omega arith)
not_zero (suc n) h = eqb-suc-zero n

pub runs_none : (list : List PrdEntry) (n : ℕ) → n ≡ 0 → runs list n ≡ []
runs_none [] n e = refl
runs_none (x ∷ rest) n e = rw e refl

pub runs_some : (e : PrdEntry) (rest : List PrdEntry) (n : ℕ) → 0 < n
    → runs (e ∷ rest) n ≡ (record { address = e.address; length = min e.length n }) ∷ runs rest (n - e.length)
runs_some e rest n h = rw (not_zero n h) refl

-- the next run, at an entry's place
pub runs_at : (list : List PrdEntry) (i n : ℕ) → i < length list → 0 < n
    → runs (drop i list) n
    ≡ (record { address = (get_or list i no_entry).address; length = min (get_or list i no_entry).length n })
    ∷ runs (drop (i + 1) list) (n - (get_or list i no_entry).length)
runs_at list i n h p =
    ap (λ l. runs l n) (drop_more list i no_entry h) ∙ runs_some (get_or list i no_entry) (drop (i + 1) list) n p

-- nothing is left exactly if no byte is, or no entry
pub runs_over : (list : List PrdEntry) (i n : ℕ) → i ≡ length list → runs (drop i list) n ≡ []
runs_over list i n e = ap (λ l. runs l n) (drop_all i list (omega arith))

pub runs_go_on : (list : List PrdEntry) (i n : ℕ) → i < length list → 0 < n → runs (drop i list) n ≡ [] → ⊥
runs_go_on list i n h p e = let first = runs_at list i n h p in cc

pub placed_none : (list : List PrdEntry) (bytes : List ℕ) → length bytes ≡ 0 → placed list bytes ≡ []
placed_none [] bytes e = refl
placed_none (x ∷ rest) bytes e = rw e refl

pub placed_some : (e : PrdEntry) (rest : List PrdEntry) (bytes : List ℕ) → 0 < length bytes
    → placed (e ∷ rest) bytes ≡ (record { address = e.address; bytes = take e.length bytes }) ∷ placed rest (drop e.length bytes)
placed_some e rest bytes h = rw (not_zero (length bytes) h) refl

pub placed_at : (list : List PrdEntry) (i : ℕ) (bytes : List ℕ) → i < length list → 0 < length bytes
    → placed (drop i list) bytes
    ≡ (record { address = (get_or list i no_entry).address; bytes = take (get_or list i no_entry).length bytes })
    ∷ placed (drop (i + 1) list) (drop (get_or list i no_entry).length bytes)
placed_at list i bytes h p =
    ap (λ l. placed l bytes) (drop_more list i no_entry h) ∙ placed_some (get_or list i no_entry) (drop (i + 1) list) bytes p

pub placed_over : (list : List PrdEntry) (i : ℕ) (bytes : List ℕ) → i ≡ length list → placed (drop i list) bytes ≡ []
placed_over list i bytes e = ap (λ l. placed l bytes) (drop_all i list (omega arith))

pub placed_go_on : (list : List PrdEntry) (i : ℕ) (bytes : List ℕ) → i < length list → 0 < length bytes → placed (drop i list) bytes ≡ [] → ⊥
placed_go_on list i bytes h p e = let first = placed_at list i bytes h p in cc

-- data is written to the runs that it would be read from
same_places : (list : List PrdEntry) (bytes : List ℕ) → (length bytes ≡ 0) ⊎ (0 < length bytes) → map run_of (placed list bytes) ≡ runs list (length bytes)
same_places [] bytes h = refl
same_places (e ∷ rest) bytes (inl none) = ap (λ l. map run_of l) (placed_none (e ∷ rest) bytes none) ∙ sym (runs_none (e ∷ rest) (length bytes) none)
same_places (e ∷ rest) bytes (inr some) =
    let n : length (take e.length bytes) ≡ min e.length (length bytes) = length-take e.length bytes in
    let d : length (drop e.length bytes) ≡ length bytes - e.length = length-drop e.length bytes in
    ap (λ l. map run_of l) (placed_some e rest bytes some)
    ∙ ap (λ k. (record { address = e.address; length = k }) ∷ map run_of (placed rest (drop e.length bytes))) n
    ∙ ap (λ l. (record { address = e.address; length = min e.length (length bytes) }) ∷ l)
    (same_places rest (drop e.length bytes) (zero_or_more (length (drop e.length bytes))) ∙ ap (λ k. runs rest k) d)
    ∙ sym (runs_some e rest (length bytes) some)

pub runs-placed : (list : List PrdEntry) (bytes : List ℕ) → map run_of (placed list bytes) ≡ runs list (length bytes)
runs-placed list bytes = same_places list bytes (zero_or_more (length bytes))

-- all bytes are written, in their order
whole_data : (list : List PrdEntry) (bytes : List ℕ) → (length bytes ≡ 0) ⊎ (0 < length bytes) → length bytes ≤ total list → concat (map (λ p. p.bytes) (placed list bytes)) ≡ bytes
whole_data [] bytes h fits = sym (nil_from_length bytes (omega arith))
whole_data (e ∷ rest) bytes (inl none) fits = ap (λ l. concat (map (λ p. p.bytes) l)) (placed_none (e ∷ rest) bytes none) ∙ sym (nil_from_length bytes none)
whole_data (e ∷ rest) bytes (inr some) fits =
    let d : length (drop e.length bytes) ≡ length bytes - e.length = length-drop e.length bytes in
    let t : total (e ∷ rest) ≡ e.length + total rest = sum_by-cons (λ x. x.length) e rest in
    ap (λ l. concat (map (λ p. p.bytes) l)) (placed_some e rest bytes some)
    ∙ ap (λ l. take e.length bytes ++ l) (whole_data rest (drop e.length bytes) (zero_or_more (length (drop e.length bytes))) (omega arith))
    ∙ take-append-drop e.length bytes

pub concat-placed : (list : List PrdEntry) (bytes : List ℕ) → length bytes ≤ total list → concat (map (λ p. p.bytes) (placed list bytes)) ≡ bytes
concat-placed list bytes fits = whole_data list bytes (zero_or_more (length bytes)) fits

-- one run more is read
pub record Gathers (list : List PrdEntry) (i n : ℕ) (rs : List Run) : Type 0 where
  pub index : i < length list
  pub most : (first_run rs).length ≤ n
  pub later : runs (drop (i + 1) list) (n - (first_run rs).length) ≡ later_runs rs

pub gathers : (list : List PrdEntry) (i n : ℕ) (rs : List Run) → runs (drop i list) n ≡ rs → i ≤ length list → (rs ≡ [] → ⊥) → Gathers list i n rs
gathers list i n rs e le go =
    elim (zero_or_more n) [
      | inl none ↦ absurd (go (sym e ∙ runs_none (drop i list) n none))
      | inr some ↦ elim (cases_lt i (length list)) [
        | inl more ↦ step more some
        | inr over ↦ absurd (go (sym e ∙ runs_over list i n (omega arith)))
      ]
    ]
  where
    step : i < length list → 0 < n → Gathers list i n rs
    step h p =
        let x = get_or list i no_entry in
        let at : rs ≡ (record { address = x.address; length = min x.length n }) ∷ runs (drop (i + 1) list) (n - x.length) = sym e ∙ runs_at list i n h p in
        let first : (first_run rs).length ≡ min x.length n = ap (λ l. (first_run l).length) at in
        let rest : n - (first_run rs).length ≡ n - x.length = omega arith in
        record {
          index = h;
          most = omega arith;
          later = ap (λ k. runs (drop (i + 1) list) k) rest ∙ sym (ap later_runs at);
        }

-- one run more is written
pub record Scatters (list : List PrdEntry) (i : ℕ) (bytes : List ℕ) (done : ℕ) (ps : List Put) : Type 0 where
  pub index : i < length list
  pub fits : done + length (first_put ps).bytes ≤ length bytes
  pub part : take (length (first_put ps).bytes) (drop done bytes) ≡ (first_put ps).bytes
  pub later : placed (drop (i + 1) list) (drop (done + length (first_put ps).bytes) bytes) ≡ later_puts ps

pub scatters : (list : List PrdEntry) (i : ℕ) (bytes : List ℕ) (done : ℕ) (ps : List Put) → placed (drop i list) (drop done bytes) ≡ ps
    → i ≤ length list → done ≤ length bytes → (ps ≡ [] → ⊥) → Scatters list i bytes done ps
scatters list i bytes done ps e le within go =
    elim (zero_or_more (length (drop done bytes))) [
      | inl none ↦ absurd (go (sym e ∙ placed_none (drop i list) (drop done bytes) none))
      | inr some ↦ elim (cases_lt i (length list)) [
        | inl more ↦ step more some
        | inr over ↦ absurd (go (sym e ∙ placed_over list i (drop done bytes) (omega arith)))
      ]
    ]
  where
    step : i < length list → 0 < length (drop done bytes) → Scatters list i bytes done ps
    step h p =
        let x = get_or list i no_entry in
        let left = drop done bytes in
        let at : ps ≡ (record { address = x.address; bytes = take x.length left }) ∷ placed (drop (i + 1) list) (drop x.length left) = sym e ∙ placed_at list i left h p in
        let first : (first_put ps).bytes ≡ take x.length left = ap (λ l. (first_put l).bytes) at in
        let n : length (first_put ps).bytes ≡ min x.length (length left) = ap length first ∙ length-take x.length left in
        let len : length left ≡ length bytes - done = length-drop done bytes in
        let cut : drop (length (first_put ps).bytes) left ≡ drop x.length left = ap (λ k. drop k left) n ∙ drop_min x.length left in
        record {
          index = h;
          fits = omega arith;
          part = ap (λ k. take k left) n ∙ take_min x.length left ∙ sym first;
          later = ap (λ l. placed (drop (i + 1) list) l) (sym (drop-drop (length (first_put ps).bytes) done bytes) ∙ cut) ∙ sym (ap later_puts at);
        }

-- nothing is left exactly where no byte or no entry is
pub last_entry : (list : List PrdEntry) (i n k : ℕ) → k ≡ length list → i ≤ length list → (n ≡ 0 → ⊥) → runs (drop i list) n ≡ [] → i ≡ k
last_entry list i n k len le some none =
    elim (cases_lt i (length list)) [
      | inl more ↦ absurd (runs_go_on list i n more (positive n some) none)
      | inr over ↦ omega arith
    ]

pub last_put : (list : List PrdEntry) (i : ℕ) (bytes : List ℕ) (k : ℕ) → k ≡ length list → i ≤ length list → (length bytes ≡ 0 → ⊥) → placed (drop i list) bytes ≡ [] → i ≡ k
last_put list i bytes k len le some none =
    elim (cases_lt i (length list)) [
      | inl more ↦ absurd (placed_go_on list i bytes more (positive (length bytes) some) none)
      | inr over ↦ omega arith
    ]
