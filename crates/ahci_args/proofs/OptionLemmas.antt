-- The text of one option, where the words of its subcommand are no fault: it has passed the option's parser.
use Rattle.std.proofs.Common.{◌≡◌, ◌⊎◌, ◌++◌, ◌&&◌, ◌||◌, ◌∙◌, ◌+◌, ℕ, Bool, min, true, false, not, cond, zero, suc, refl, inl, inr, List, [], ◌∷◌, Option, Some, None, subst, sym, ap, arith}
use Rattle.std.specs.Prelude.{if◌then◌else◌, find, fold, option_and_then, slice_get}
use Rattle.std.specs.List.{list_all, list_any}
use Rattle.std.specs.Option.{option_map_or}
use Rattle.std.specs.Str.{bytes_eq}
use Rattle.std.proofs.lemmas.Bool.{ne_eqb, or_cases, or_left, or_parts, or_right, true≢false}
use Rattle.std.proofs.lemmas.Slice.Eq.{bytes_eq-Decides}
use Rattle.clap.specs.Facts.{explicit_source, parser_of_value}
use Rattle.clap.specs.Matches.{count_text}
use Rattle.clap.specs.Values.{read_as, refused_kind}
use Rattle.clap.specs.ValueTests.{accepts}
use Rattle.clap.specs.Walk.{Row, Rule, Text, action_of, arg_by_index, at_row, count_of, default_rows, has_row, is_empty, more_values, new_count, nothing_held}
use Rattle.clap.specs.Walk.{reading_by, row_text, rows_after, settled, used, used_as, values_or_missing, walk, with_default, with_values, without}
use Rattle.clap.specs.Simple.{Shape}
use Rattle.clap.specs.Kinds.{check_kinds}
use Rattle.clap.specs.Faults.{check_fault, default_fault, defaults_fault, given_default_fault, level_fault, set_fault, use_fault, values_fault}
use Rattle.clap.specs.Takes.{is_given}
use Rattle.clap.specs.declared.builder.action.ArgAction.{ArgAction}
use Rattle.clap.specs.declared.builder.action.ArgAction.TheVariants.{Append, Count, Set, SetFalse, SetTrue}
use Rattle.clap.specs.declared.parser.matches.ValueSource.{ValueSource}
use Rattle.clap.specs.declared.parser.matches.ValueSource.TheVariants.{CommandLine, DefaultValue}
use Rattle.ahci_args.proofs.WalkLemmas.{Each, Keeps, first_none, level_keeps, second_none}

-- ---- the rows of an option

-- there is a value
abbrev pub HasFirst : List Text → Type 0
HasFirst [] = ⊥
HasFirst (v ∷ vs) = Unit {0}

some_values : (v : Text) (vs : List Text) → is_empty (v ∷ vs) ≡ false
some_values v vs = ne_eqb _ _ (λ bad. omega (arith, bad))

-- the first value has passed the option's parser
abbrev pub FirstPasses : Rule → List Text → Type 0
FirstPasses a [] = ⊥
FirstPasses a (v ∷ vs) = accepts a.ignore_case (parser_of_value a.parser) v ≡ true

-- values for the option are read as it says, and the first has passed
abbrev Passes : Rule → Rule → List Text → Type 0
Passes a x values = bytes_eq x.id a.id ≡ true → (reading_by x ≡ reading_by a) × FirstPasses a values

abbrev RowPasses : Rule → Row → Type 0
RowPasses a r = bytes_eq r.id a.id ≡ true → (r.reading ≡ reading_by a) × FirstPasses a r.values

abbrev RowsPass : Rule → List Row → Type 0
RowsPass a [] = Unit {0}
RowsPass a (r ∷ rs) = RowPasses a r × RowsPass a rs

-- a rule is that of the option, or has another id
abbrev IsApart : Rule → Rule → Type 0
IsApart a x = (x ≡ a) ⊎ (bytes_eq x.id a.id ≡ false)

-- a use without a fault has a value that has passed
abbrev pub Checks : Rule → Type 0
Checks a = (values : List Text) (rows : List Row) → use_fault false a values rows ≡ [] → FirstPasses a (values_or_missing a values)

module _ (a : Rule) where
  first_passes : (values : List Text) → values_fault a values ≡ [] → HasFirst values → FirstPasses a values
  first_passes [] e some = absurd some
  first_passes (v ∷ vs) e some = go (accepts a.ignore_case (parser_of_value a.parser) v) (first_none _ _ e)
    where
      go : (b : Bool) → (if b then [] else refused_kind (parser_of_value a.parser) ∷ []) ≡ [] → b ≡ true
      go true e = refl
      go false e = cc

  pub checks : ((values : List Text) (rows : List Row) → use_fault false a values rows ≡ [] → set_fault false a (values_or_missing a values) rows ≡ [])
      → ((rows : List Row) → use_fault false a [] rows ≡ [] → HasFirst a.missing) → Checks a
  checks sets some [] rows e = first_passes a.missing (second_none _ _ (sets [] rows e)) (some rows e)
  checks sets some (v ∷ vs) rows e = first_passes (v ∷ vs) (second_none _ _ (sets (v ∷ vs) rows e)) tt

  both_pass : (xs ys : List Row) → RowsPass a xs → RowsPass a ys → RowsPass a (xs ++ ys)
  both_pass [] ys f g = g
  both_pass (x ∷ xs) ys f g = (f.0, both_pass xs ys f.1 g)

  at_passes : (id : Text) (change : Row → List Row) (missing rows : List Row) → ((r : Row) → RowPasses a r → RowsPass a (change r)) → RowsPass a missing
      → RowsPass a rows → RowsPass a (at_row id change missing rows)
  at_passes id change missing [] kept new f = new
  at_passes id change missing (r ∷ rs) kept new f = go (bytes_eq r.id id) (at_passes id change missing rs kept new f.1)
    where
      go : (b : Bool) → RowsPass a (at_row id change missing rs) → RowsPass a (cond b (change r ++ rs) (r ∷ at_row id change missing rs))
      go true rest = both_pass (change r) rs (kept r f.0) f.1
      go false rest = (f.0, rest)

  more_pass : (vs us : List Text) → FirstPasses a vs → FirstPasses a (vs ++ us)
  more_pass [] us f = absurd f
  more_pass (v ∷ vs) us f = f

  with_pass : (x : Rule) (s : ValueSource) (values : List Text) (rows : List Row) → Passes a x values → RowsPass a rows → RowsPass a (with_values x.id (reading_by x) s values rows)
  with_pass x s values rows given f =
      at_passes x.id (more_values s values) _ rows (λ r f. (λ same. ((f same).0, more_pass r.values values (f same).1), tt)) (given, tt) f

  used_passes : (x : Rule) (values : List Text) (rows : List Row) → Passes a x (values_or_missing x values) → RowsPass a rows → RowsPass a (used x values rows)
  used_passes x values rows given f = go (action_of x) (values_or_missing x values) given
    where
      cleared : RowsPass a (without x.id rows)
      cleared = at_passes x.id (λ _. []) [] rows (λ r f. tt) tt f

      go : (act : ArgAction) (vs : List Text) → Passes a x vs → RowsPass a (used_as act x.id (reading_by x) vs rows)
      go Set vs given = with_pass x CommandLine vs (without x.id rows) given cleared
      go SetTrue vs given = with_pass x CommandLine vs (without x.id rows) given cleared
      go SetFalse vs given = with_pass x CommandLine vs (without x.id rows) given cleared
      go Append vs given = with_pass x CommandLine vs rows given f
      go Count (v ∷ vs) given = with_pass x CommandLine (v ∷ vs) (without x.id rows) given cleared
      go Count [] given =
          let n = min (count_of x.id rows + 1) 255 in
          at_passes x.id (new_count CommandLine n) _ (without x.id rows) (λ r f. (λ same. ((f same).0, more_pass r.values (count_text n ∷ []) (f same).1), tt))
          (λ same. absurd (given same).1, tt) cleared
      go other vs given = f

  apart_passes : (x : Rule) (values : List Text) → bytes_eq x.id a.id ≡ false → Passes a x values
  apart_passes x values other same = absurd (true≢false (sym same ∙ other))

  -- so a use of any option keeps the rows passed, and so does its default
  use_keeps : Checks a → (x : Rule) → IsApart a x → Keeps (RowsPass a) x
  use_keeps fine x (inl is) = subst (Keeps (RowsPass a)) (sym is) (λ values rows e f. used_passes a values rows (λ same. (refl, fine values rows e)) f)
  use_keeps fine x (inr other) = λ values rows e f. used_passes x values rows (apart_passes x _ other) f

  default_keeps : (x : Rule) (rows : List Row) → IsApart a x → default_fault rows x ≡ [] → RowsPass a rows → RowsPass a (with_default rows x)
  default_keeps x rows apart e f = go (has_row x.id rows) x.defaults refl e
    where
      given : (v : Text) (vs : List Text) → x.defaults ≡ v ∷ vs → given_default_fault x (v ∷ vs) ≡ [] → IsApart a x → Passes a x (v ∷ vs)
      given v vs are e (inl is) same = (ap reading_by is, first_passes (v ∷ vs) (subst (λ y. values_fault y (v ∷ vs) ≡ []) is (second_none _ _ e)) tt)
      given v vs are e (inr other) same = apart_passes x (v ∷ vs) other same

      go : (b : Bool) (vs : List Text) → x.defaults ≡ vs → (if b || is_empty vs then [] else given_default_fault x vs) ≡ []
          → RowsPass a (if b then rows else default_rows x.id (reading_by x) vs rows)
      go true vs are e = f
      go false [] are e = f
      go false (v ∷ vs) are e = let fault = rw (some_values v vs) at e in with_pass x DefaultValue (v ∷ vs) rows (given v vs are fault apart) f

  defaults_keep : (c : List Rule) (rows : List Row) → Each (IsApart a) c → defaults_fault rows c ≡ [] → RowsPass a rows → RowsPass a (fold with_default rows c)
  unfolding defaults_fault
  defaults_keep [] rows apart e f = f
  defaults_keep (x ∷ xs) rows apart e f = defaults_keep xs (with_default rows x) apart.1 (second_none _ _ e) (default_keeps x rows apart.0 (first_none _ _ e) f)

  uses_keep : Checks a → (c : List Rule) → Each (IsApart a) c → Each (Keeps (RowsPass a)) c
  uses_keep fine [] apart = tt
  uses_keep fine (x ∷ xs) apart = (use_keeps fine x apart.0, uses_keep fine xs apart.1)

-- ---- the rows that there are

at_keeps : (id other : Text) (change : Row → List Row) (missing rows : List Row) → ((r : Row) (rs : List Row) → has_row id (r ∷ rs) ≡ true → has_row id (change r ++ rs) ≡ true)
    → has_row id rows ≡ true → has_row id (at_row other change missing rows) ≡ true
at_keeps id other change missing [] kept h = cc
at_keeps id other change missing (r ∷ rs) kept h = go (bytes_eq r.id other) (at_keeps id other change missing rs kept)
  where
    go : (b : Bool) → (has_row id rs ≡ true → has_row id (at_row other change missing rs) ≡ true) → has_row id (cond b (change r ++ rs) (r ∷ at_row other change missing rs)) ≡ true
    go true rest = kept r rs h
    go false rest = elim (or_cases (bytes_eq r.id id) (has_row id rs) h) [ inl here ↦ or_left _ _ here | inr there ↦ or_right _ _ (rest there) ]

with_row : (x : Rule) (s : ValueSource) (values : List Text) (rows : List Row) → has_row x.id (with_values x.id (reading_by x) s values rows) ≡ true
with_row x s values [] = rw ((bytes_eq-Decides x.id x.id).1 refl) refl
with_row x s values (r ∷ rs) = go (bytes_eq r.id x.id) refl (with_row x s values rs)
  where
    go : (b : Bool) → bytes_eq r.id x.id ≡ b → has_row x.id (with_values x.id (reading_by x) s values rs) ≡ true
        → has_row x.id (cond b (more_values s values r ++ rs) (r ∷ with_values x.id (reading_by x) s values rs)) ≡ true
    go true is rest = or_left _ _ is
    go false is rest = or_right _ _ rest

-- no default takes a row away
default_keeps_row : (id : Text) (x : Rule) (rows : List Row) → has_row id rows ≡ true → has_row id (with_default rows x) ≡ true
default_keeps_row id x rows h = go (has_row x.id rows) x.defaults
  where
    go : (b : Bool) (vs : List Text) → has_row id (if b then rows else default_rows x.id (reading_by x) vs rows) ≡ true
    go true vs = h
    go false [] = h
    go false (v ∷ vs) = at_keeps id x.id (more_values DefaultValue (v ∷ vs)) _ rows (λ r rs h. h) h

defaults_keep_row : (id : Text) (c : List Rule) (rows : List Row) → has_row id rows ≡ true → has_row id (fold with_default rows c) ≡ true
defaults_keep_row id [] rows h = h
defaults_keep_row id (x ∷ xs) rows h = defaults_keep_row id xs (with_default rows x) (default_keeps_row id x rows h)

-- what was given has a row
given_row : (id : Text) (rows : List Row) → is_given id rows ≡ true → has_row id rows ≡ true
given_row id [] e = cc
given_row id (r ∷ rs) e = go (bytes_eq r.id id) e (given_row id rs)
  where
    go : (b : Bool) → option_map_or (λ x. explicit_source x.source) (cond b (Some r) (find (λ x. bytes_eq x.id id) rs)) false ≡ true
        → (is_given id rs ≡ true → has_row id rs ≡ true) → (b || has_row id rs) ≡ true
    go true e rest = refl
    go false e rest = rest e

-- the text of a row, which has passed the option's parser
pub record TextOf (a : Rule) (row : Option Row) : Type 0 where
  pub text : Text
  pub first : option_and_then (λ r. slice_get r.values 0) row ≡ Some text
  pub one : option_and_then row_text row ≡ Some (read_as (reading_by a) text)
  pub passed : accepts a.ignore_case (parser_of_value a.parser) text ≡ true

-- all but the rule at this place have another id
abbrev pub are_others : ℕ → Text → List Rule → Bool
are_others n id [] = true
are_others zero id (x ∷ xs) = list_all (λ (y : Rule). not (bytes_eq y.id id)) xs
are_others (suc n) id (x ∷ xs) = not (bytes_eq x.id id) && are_others n id xs

parted : (b rest : Bool) → (not b && rest) ≡ true → (b ≡ false) × (rest ≡ true)
parted true rest e = cc
parted false rest e = (refl, e)

-- the option is the rule at a place of these
module _ (a : Rule) where
  all_apart : (c : List Rule) → list_all (λ (y : Rule). not (bytes_eq y.id a.id)) c ≡ true → Each (IsApart a) c
  all_apart [] e = tt
  all_apart (x ∷ xs) e = let parts = parted _ _ e in (inr parts.0, all_apart xs parts.1)

  apart_at : (n : ℕ) (c : List Rule) → slice_get c n ≡ Some a → are_others n a.id c ≡ true → Each (IsApart a) c
  apart_at n [] at e = tt
  apart_at zero (x ∷ xs) at e = let is : x ≡ a = cc in (inl is, all_apart xs e)
  apart_at (suc n) (x ∷ xs) at e = let parts = parted _ _ e in (inr parts.0, apart_at n xs at parts.1)

  fails_at : (n : ℕ) (c : List Rule) (p : Rule → Bool) → slice_get c n ≡ Some a → list_any p c ≡ false → p a ≡ false
  fails_at n [] p at e = cc
  fails_at zero (x ∷ xs) p at e = let is : x ≡ a = cc in subst (λ y. p y ≡ false) is (or_parts _ _ e).0
  fails_at (suc n) (x ∷ xs) p at e = fails_at n xs p at (or_parts _ _ e).1

  -- an option with a default has a row at the end
  defaults_row : (n : ℕ) (c : List Rule) (rows : List Row) → slice_get c n ≡ Some a → HasFirst a.defaults → has_row a.id (fold with_default rows c) ≡ true
  defaults_row n [] rows at some = cc
  defaults_row zero (x ∷ xs) rows at some =
      let is : x ≡ a = cc in defaults_keep_row a.id xs (with_default rows x) (subst (λ y. has_row a.id (with_default rows y) ≡ true) (sym is) (go (has_row a.id rows) refl a.defaults some))
    where
      go : (b : Bool) → has_row a.id rows ≡ b → (vs : List Text) → HasFirst vs → has_row a.id (if b then rows else default_rows a.id (reading_by a) vs rows) ≡ true
      go true is vs some = is
      go false is [] some = absurd some
      go false is (v ∷ vs) some = with_row a DefaultValue (v ∷ vs) rows
  defaults_row (suc n) (x ∷ xs) rows at some = defaults_row n xs (with_default rows x) at some

  -- one that is required was given, by the last test of the parser
  required_row : (n : ℕ) (s : Shape) (rows : List Row) → slice_get s.rules n ≡ Some a → a.required ≡ true → check_fault s rows false ≡ [] → has_row a.id rows ≡ true
  required_row n s rows at required e =
      given_row a.id rows (given a.required (is_given a.id rows) required (fails_at n s.rules (λ x. x.required && not (is_given x.id rows)) at (not_wanted _ _ _ s.subcommand_negates_reqs e)))
    where
      not_wanted : (x y z n : Bool) → check_kinds x y (not (n && false) && z) ≡ [] → z ≡ false
      not_wanted true y z n e = cc
      not_wanted false true z n e = cc
      not_wanted false false true true e = cc
      not_wanted false false true false e = cc
      not_wanted false false false n e = refl

      given : (r g : Bool) → r ≡ true → (r && not g) ≡ false → g ≡ true
      given true true r e = refl
      given true false r e = cc
      given false g r e = cc

  row_passes : (r : Row) (vs : List Text) → r.values ≡ vs → r.reading ≡ reading_by a → FirstPasses a vs → TextOf a (Some r)
  row_passes r [] are reading f = absurd f
  row_passes r (v ∷ vs) are reading f = record { text = v; first = rw are refl; one = rw (are, reading) refl; passed = f }

  find_text : (rows : List Row) → RowsPass a rows → has_row a.id rows ≡ true → TextOf a (find (λ r. bytes_eq r.id a.id) rows)
  find_text [] f h = cc
  find_text (r ∷ rs) f h = go (bytes_eq r.id a.id) refl h (find_text rs f.1)
    where
      go : (b : Bool) → bytes_eq r.id a.id ≡ b → (b || has_row a.id rs) ≡ true → (has_row a.id rs ≡ true → TextOf a (find (λ r. bytes_eq r.id a.id) rs))
          → TextOf a (cond b (Some r) (find (λ r. bytes_eq r.id a.id) rs))
      go true is h rest = row_passes r r.values refl (f.0 is).0 (f.0 is).1
      go false is h rest = rest h

-- words that are no fault of a subcommand with options alone
pub record AreFine (leaf : Shape) (words : List Text) : Type 0 where
  pub no_fault : level_fault leaf [] nothing_held words false [] ≡ []
  pub once : leaf.args_override_self ≡ false
  pub none : (i : ℕ) → arg_by_index leaf.rules i ≡ None

-- the text of an option that is required or has a default
pub option_text : {leaf : Shape} {words : List Text} → AreFine leaf words → (n : ℕ) (a : Rule) → slice_get leaf.rules n ≡ Some a → are_others n a.id leaf.rules ≡ true
    → Checks a → (a.required ≡ true) ⊎ HasFirst a.defaults → TextOf a (find (λ r. bytes_eq r.id a.id) (rows_after leaf.rules [] words))
option_text {leaf} {words} fine n a at others check there =
    let apart = apart_at a n leaf.rules at others in
    let ends = level_keeps (RowsPass a) leaf fine.once fine.none (uses_keep a check leaf.rules apart) words fine.no_fault tt in
    let rows = (settled leaf.rules (walk leaf.rules [] nothing_held words).held).rows in
    find_text a (rows_after leaf.rules [] words) (defaults_keep a leaf.rules rows apart ends.1 ends.0) (elim there [
      | inl required ↦ required_row a n leaf (rows_after leaf.rules [] words) at required ends.2
      | inr some ↦ defaults_row a n leaf.rules rows at some
    ])
