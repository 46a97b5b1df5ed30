-- A level of a table, whose parts have so many slots each.
use Rattle.std.proofs.Common.{◌≡◌, ℕ, ◌+◌, ◌*◌, ◌/◌, ◌%◌, ◌<◌, List, [], ◌∷◌, ◌++◌, length, get_or, set, Option, None, Some, true, ap, sym, ◌∙◌, inl, inr, cond, eqb, refl, zero, suc}
use Rattle.std.proofs.lemmas.Bool.{cases_eq, cases_lt, cond-true, cond-false, eq-eqb, ne_eqb, true≢false}
use Rattle.std.proofs.lemmas.List.{get_or-set_same, get_or-set_other, get_or_past, get_or_read, set-get_or}
use Rattle.std.proofs.Math.Nat.{div-add-mod}
use Rattle.std.specs.List.{slice_get}
use Rattle.std.specs.Option.{is_some}
use Rattle.sector_store.specs.Layers.{Layers, no_pages}
use Rattle.sector_store.specs.Slots.{slot_within, layers_of, IsExchanged, IsEmpty, HasGrown}

-- one more slot with no pages
pub is_empty_push : (xs : List Layers) → IsEmpty (slice_get xs) → IsEmpty (slice_get (xs ++ no_pages ∷ []))
is_empty_push [] all zero = refl
is_empty_push [] all (suc q) = refl
is_empty_push (x ∷ xs) all zero = all 0
is_empty_push (x ∷ xs) all (suc q) = is_empty_push xs (λ k. all (suc k)) q

-- a level's slots, by those of its parts
abbrev pub level_slot : {C : Type 0} → (C → ℕ → Option Layers) → ℕ → List (Option C) → ℕ → Option Layers
level_slot slot_at span parts q = slot_within slot_at (get_or parts (q / span) None) (q % span)

-- one slot of a part has changed
pub level_exchanged : {C : Type 0} (slot_at : C → ℕ → Option Layers) (span number : ℕ) (parts : List (Option C)) (old new : C) (layers : Layers)
    → number / span < length parts → get_or parts (number / span) None ≡ Some old → IsExchanged (number % span) layers (slot_at old) (slot_at new)
    → IsExchanged number layers (level_slot slot_at span parts) (level_slot slot_at span (set parts (number / span) (Some new)))
level_exchanged {C} slot_at span number parts old new layers inside is each q =
    elim (cases_eq (q / span) (number / span)) [
      | inl same ↦
          ap (λ i. slot_within slot_at (get_or (set parts (number / span) (Some new)) i None) (q % span)) same
          ∙ ap (λ o. slot_within slot_at o (q % span)) (get_or-set_same {A = Option C} parts (number / span) (Some new) None inside)
          ∙ each (q % span)
          ∙ places same
          ∙ ap (cond (eqb q number) (Some layers)) (sym (before same))
      | inr other ↦
          ap (λ o. slot_within slot_at o (q % span)) (get_or-set_other {A = Option C} parts (number / span) (q / span) (Some new) None other)
          ∙ sym (cond-false (eqb q number) (Some layers) (level_slot slot_at span parts q) (ne_eqb q number (λ e. other (ap (λ x. x / span) e))))
    ]
  where
    before : q / span ≡ number / span → level_slot slot_at span parts q ≡ slot_at old (q % span)
    before same = ap (λ i. slot_within slot_at (get_or parts i None) (q % span)) same ∙ ap (λ o. slot_within slot_at o (q % span)) is

    places : q / span ≡ number / span → cond (eqb (q % span) (number % span)) (Some layers) (slot_at old (q % span)) ≡ cond (eqb q number) (Some layers) (slot_at old (q % span))
    places same =
        elim (cases_eq (q % span) (number % span)) [
          | inl place ↦
              let both : q ≡ number = sym (div-add-mod q span) ∙ ap (λ i. span * i + q % span) same ∙ ap (λ r. span * (number / span) + r) place ∙ div-add-mod number span in
              cond-true (eqb (q % span) (number % span)) (Some layers) (slot_at old (q % span)) (eq-eqb (q % span) (number % span) place)
              ∙ sym (cond-true (eqb q number) (Some layers) (slot_at old (q % span)) (eq-eqb q number both))
          | inr differ ↦
              cond-false (eqb (q % span) (number % span)) (Some layers) (slot_at old (q % span)) (ne_eqb (q % span) (number % span) differ)
              ∙ sym (cond-false (eqb q number) (Some layers) (slot_at old (q % span)) (ne_eqb q number (λ e. differ (ap (λ x. x % span) e))))
        ]

-- the slots of a part that isn't there
abbrev pub no_slots : ℕ → Option Layers
no_slots q = None

-- a part has grown, or was made
pub level_grown : {C : Type 0} (slot_at : C → ℕ → Option Layers) (span place : ℕ) (parts : List (Option C)) (old : Option C) (new : C)
    → place < length parts → get_or parts place None ≡ old → HasGrown (slot_within slot_at old) (slot_at new)
    → HasGrown (level_slot slot_at span parts) (level_slot slot_at span (set parts place (Some new)))
level_grown {C} slot_at span place parts old new inside is grown =
    record {
      layers = λ q. elim (cases_eq (q / span) place) [
        | inl same ↦ ap layers_of (after q same) ∙ grown.layers (q % span) ∙ ap layers_of (sym (before q same))
        | inr other ↦ ap layers_of (elsewhere q other)
      ];
      made = λ q was. elim (cases_eq (q / span) place) [
        | inl same ↦ ap is_some (after q same) ∙ grown.made (q % span) (ap is_some (sym (before q same)) ∙ was)
        | inr other ↦ ap is_some (elsewhere q other) ∙ was
      ];
    }
  where
    after : (q : ℕ) → q / span ≡ place → level_slot slot_at span (set parts place (Some new)) q ≡ slot_at new (q % span)
    after q same =
        ap (λ i. slot_within slot_at (get_or (set parts place (Some new)) i None) (q % span)) same
        ∙ ap (λ o. slot_within slot_at o (q % span)) (get_or-set_same {A = Option C} parts place (Some new) None inside)

    before : (q : ℕ) → q / span ≡ place → level_slot slot_at span parts q ≡ slot_within slot_at old (q % span)
    before q same = ap (λ i. slot_within slot_at (get_or parts i None) (q % span)) same ∙ ap (λ o. slot_within slot_at o (q % span)) is

    elsewhere : (q : ℕ) → (q / span ≡ place → ⊥) → level_slot slot_at span (set parts place (Some new)) q ≡ level_slot slot_at span parts q
    elsewhere q other = ap (λ o. slot_within slot_at o (q % span)) (get_or-set_other {A = Option C} parts place (q / span) (Some new) None other)

-- a new part has no pages where there was none
pub has_grown-new : (slots : ℕ → Option Layers) → IsEmpty slots → HasGrown no_slots slots
has_grown-new slots empty = record { layers = empty; made = λ q was. absurd (true≢false (sym was)) }

-- a new part that has grown since
pub has_grown-on : (new grown : ℕ → Option Layers) → IsEmpty new → HasGrown new grown → HasGrown no_slots grown
has_grown-on new grown empty more = record { layers = λ q. more.layers q ∙ empty q; made = λ q was. absurd (true≢false (sym was)) }

-- a level with no parts
pub is_empty_level : {C : Type 0} (slot_at : C → ℕ → Option Layers) (span : ℕ) (parts : List (Option C)) → ((i : ℕ) → get_or parts i None ≡ None) → IsEmpty (level_slot slot_at span parts)
is_empty_level slot_at span parts none q = ap (λ o. layers_of (slot_within slot_at o (q % span))) (none (q / span))

-- one more place with no part
pub none_push : {C : Type 0} (xs : List (Option C)) → ((i : ℕ) → get_or xs i None ≡ None) → (i : ℕ) → get_or (xs ++ None ∷ []) i None ≡ None
none_push [] all zero = refl
none_push [] all (suc q) = refl
none_push (x ∷ xs) all zero = all 0
none_push (x ∷ xs) all (suc q) = none_push xs (λ k. all (suc k)) q

-- a slot that is made is in a part of the level
pub part_inside : {C : Type 0} (slot_at : C → ℕ → Option Layers) (parts : List (Option C)) (i r : ℕ) → is_some (slot_within slot_at (get_or parts i None) r) ≡ true → i < length parts
part_inside {C} slot_at parts i r is =
    elim (cases_lt i (length parts)) [
      | inl inside ↦ inside
      | inr past ↦ absurd (true≢false (sym is ∙ ap (λ o. is_some (slot_within slot_at o r)) (get_or_past {X = Option C} parts i None past)))
    ]

-- what a read of a part gives
pub part_is : {C : Type 0} (parts : List (Option C)) (i : ℕ) (read part : Option C) → i < length parts → read ≡ get_or parts i read → read ≡ part → get_or parts i None ≡ part
part_is {C} parts i read part inside at is = sym (get_or_read {X = Option C} parts i read inside at None) ∙ is

-- one slot of a part that was read has changed
pub part_exchanged : {C : Type 0} (slot_at : C → ℕ → Option Layers) (span number : ℕ) (parts : List (Option C)) (read : Option C) (old new : C) (layers : Layers)
    → is_some (level_slot slot_at span parts number) ≡ true → read ≡ get_or parts (number / span) read → read ≡ Some old → IsExchanged (number % span) layers (slot_at old) (slot_at new)
    → IsExchanged number layers (level_slot slot_at span parts) (level_slot slot_at span (set parts (number / span) (Some new)))
part_exchanged {C} slot_at span number parts read old new layers made at is each =
    let inside = part_inside slot_at parts (number / span) (number % span) made in
    level_exchanged slot_at span number parts old new layers inside (part_is parts (number / span) read (Some old) inside at is) each

-- a part that was only read stays
pub part_stays : {C : Type 0} (parts : List (Option C)) (i : ℕ) (read : Option C) → read ≡ get_or parts i read → set parts i read ≡ parts
part_stays {C} parts i read at = ap (set parts i) at ∙ set-get_or {A = Option C} parts i read
