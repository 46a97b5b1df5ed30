-- What a walk over words without a fault shows: its first word, where each flag asks for help or the version, and what all its uses of
-- options keep.
use Rattle.std.proofs.Common.{◌≡◌, ◌⊎◌, ℕ, Bool, true, false, cond, zero, suc, inl, inr, List, [], ◌∷◌, Option, Some, None, codes, is_some, length, subst, refl}
use Rattle.std.specs.Prelude.{if◌then◌else◌, slice_get, find, fold, drop, encode_utf8}
use Rattle.std.specs.Option.{option_map_or}
use Rattle.std.specs.Str.{bytes_eq, chars}
use Rattle.std.proofs.lemmas.Slice.Eq.{bytes_eq-Decides}
use Rattle.clap.specs.Lexer.{long_of, short_of}
use Rattle.clap.specs.Walk.{Held, Names, Outcome, Row, Rule, Step, Text, Waiting, Walk, after_flag, after_step, arg_by_id, arg_by_index}
use Rattle.clap.specs.Walk.{arg_by_long, arg_by_short, attached_value, bundle, bundle_met, bundle_step, done, flag_met, idle, long_met}
use Rattle.clap.specs.Walk.{long_or_other, next, nothing_held, option, option_met, option_word, plain, plain_word, positional, reacted}
use Rattle.clap.specs.Walk.{refused, rows_after, settled, settled_rows, short_met, short_or_plain, subcommand, subcommand_met, subcommand_or_other}
use Rattle.clap.specs.Walk.{takes_values, trailing, used, used_by_id, value, waits, walk, walk_from, walked, walked_from, word_met}
use Rattle.clap.specs.Simple.{Shape}
use Rattle.clap.specs.Kinds.{Kinds, or_else}
use Rattle.clap.specs.Faults.{bundle_fault, bundle_step_fault, check_fault, defaults_fault, flag_word_fault, flags_fault, level_fault, long_fault}
use Rattle.clap.specs.Faults.{option_fault, other_fault, react_fault, settle_fault, short_fault, step_fault, stray_fault, turn_fault, use_fault, walk_fault, word_fault}
use Rattle.clap.specs.declared.error.kind.ErrorKind.TheVariants.{TooManyValues}

pub first_none : (a b : Kinds) → or_else a b ≡ [] → a ≡ []
first_none [] b e = refl
first_none (k ∷ ks) b e = e

pub second_none : (a b : Kinds) → or_else a b ≡ [] → b ≡ []
second_none [] b e = e
second_none (k ∷ ks) b e = cc

-- what each of these rules has, the first that passes a test has
abbrev pub Each : (Rule → Type 0) → List Rule → Type 0
Each Q [] = Unit {0}
Each Q (x ∷ xs) = Q x × Each Q xs

pub found_has : (Q : Rule → Type 0) (p : Rule → Bool) (c : List Rule) → Each Q c → (x : Rule) → find p c ≡ Some x → Q x
found_has Q p [] all x e = cc
found_has Q p (y ∷ ys) all x e = go (p y) e (found_has Q p ys all.1 x)
  where
    go : (b : Bool) → cond b (Some y) (find p ys) ≡ Some x → (find p ys ≡ Some x → Q x) → Q x
    go true e rest = let is : y ≡ x = cc in subst Q is all.0
    go false e rest = rest e

-- ---- where each flag asks for help or the version, and nothing is positional

-- a flag that takes no value, and whose use is a fault
abbrev pub Asks : Bool → Rule → Type 0
Asks again a = (takes_values a ≡ false) × ((rows : List Row) → use_fault again a [] rows ≡ [] → ⊥)

stray_is : (s : Shape) → stray_fault s ≡ [] → ⊥
stray_is s e = go s.is_leaf e
  where
    go : (b : Bool) → stray_fault (record s { is_leaf = b }) ≡ [] → ⊥
    go true e = cc
    go false e = cc

module _ (again : Bool) (c : List Rule) where
  long_stops : (found : Option Rule) (v : Option Text) (h : Held) → ((a : Rule) → found ≡ Some a → Asks again a) → long_fault c again found v h ≡ [] → ⊥
  long_stops None v h asks e = cc
  long_stops (Some a) None h asks e = (asks a refl).1 _ (second_none _ _ (rw (asks a refl).0 at e))
  long_stops (Some a) (Some v) h asks e = let bad = rw (asks a refl).0 at e in cc

  short_stops : (found : Option Rule) (rest : Text) (h : Held) (later : Held → Kinds) → ((a : Rule) → found ≡ Some a → Asks again a) → short_fault c again found rest h later ≡ [] → ⊥
  short_stops None rest h later asks e = cc
  short_stops (Some a) rest h later asks e = (asks a refl).1 _ (second_none (settle_fault c again h) _ (first_none (react_fault c again a [] h) _ (rw (asks a refl).0 at e)))

module _ (s : Shape) (none : (i : ℕ) → arg_by_index s.rules i ≡ None) (asks : Each (Asks s.args_override_self) s.rules) where
  abbrev again : Bool
  again = s.args_override_self

  -- a word that is no flag has no positional to go to
  pub stray : (h : Held) → step_fault s 1 h value ≡ [] → ⊥
  stray h e = stray_is s (rw (none 1) at e)

  bundle_stops : (word : Text) (n : ℕ) (flags : Text)
      → or_else (flags_fault s.rules again n flags 0 nothing_held)
      (let met = after_flag s.rules idle word (bundle_met s.rules n flags 0 plain nothing_held).0 (bundle_met s.rules n flags 0 plain nothing_held).1 in step_fault s 1 met.0 met.1)
      ≡ [] → ⊥
  unfolding flags_fault bundle_met
  bundle_stops word zero flags e = stray nothing_held e
  bundle_stops word (suc n) flags e = go (slice_get (chars flags) 0) e
    where
      go : (x : Option ℕ)
          → or_else (bundle_step_fault s.rules again x flags 0 nothing_held (flags_fault s.rules again n))
          (let met = after_flag s.rules idle word (bundle_step s.rules x flags 0 plain nothing_held (bundle_met s.rules n)).0
          (bundle_step s.rules x flags 0 plain nothing_held (bundle_met s.rules n)).1 in step_fault s 1 met.0 met.1)
          ≡ [] → ⊥
      go None e = stray nothing_held e
      go (Some x) e =
          short_stops again s.rules (arg_by_short s.rules x) (drop (length (encode_utf8 x)) flags) nothing_held (flags_fault s.rules again n (drop (length (encode_utf8 x)) flags) 0)
          (found_has (Asks again) _ s.rules asks) (first_none _ _ e)

  -- a word that is no subcommand and not `--`
  word_stops : (word : Text) (o : Option (Text × Option Text))
      → or_else (flag_word_fault s.rules again o word nothing_held)
      (let met = long_or_other s.rules idle word o nothing_held in step_fault s 1 met.0 met.1)
      ≡ [] → ⊥
  word_stops word (Some p) e =
      long_stops again s.rules (arg_by_long s.rules p.0) p.1 nothing_held (found_has (Asks again) _ s.rules asks) (first_none _ _ e)
  word_stops word None e = go (short_of word) e
    where
      go : (o : Option Text)
          → or_else (option_map_or (λ flags. bundle_fault s.rules again flags nothing_held) o [])
          (let met = short_or_plain s.rules idle word o nothing_held in step_fault s 1 met.0 met.1)
          ≡ [] → ⊥
      go None e = stray nothing_held e
      go (Some flags) e = bundle_stops word (length flags) flags e

  -- so that a first word that is no subcommand is `--`, with none after it
  pub first_word : (names : Names) (word : Text) (more : List Text) → subcommand_met names idle word ≡ None → walk_fault s names (walk_from nothing_held) (word ∷ more) ≡ []
      → (word ≡ codes "--") × (more ≡ []) × ((walk s.rules names nothing_held (word ∷ more)).stopped ≡ None)
  unfolding walk_fault walked
  first_word names word more unnamed e = go (bytes_eq word (codes "--")) refl more (second_none _ _ e)
    where
      go : (b : Bool) → bytes_eq word (codes "--") ≡ b → (more : List Text) → walk_fault s names (walked s.rules names (walk_from nothing_held) word) more ≡ []
          → (word ≡ codes "--") × (more ≡ []) × ((walk s.rules names nothing_held (word ∷ more)).stopped ≡ None)
      go false t more rest = let turn : turn_fault s names (walk_from nothing_held) word ≡ [] = first_none _ _ e in absurd (word_stops word (long_of word) (rw (unnamed, t) at turn))
      go true t [] rest = ((bytes_eq-Decides word (codes "--")).0 t, refl, rw (unnamed, t) refl)
      go true t (another ∷ more) rest = let after = rw (unnamed, t) at rest in absurd (stray nothing_held (first_none _ _ after))

  -- a command with no subcommand takes no word but `--`
  pub leaf_words : (words : List Text) → walk_fault s [] (walk_from nothing_held) words ≡ [] → (words ≡ []) ⊎ (words ≡ codes "--" ∷ [])
  leaf_words [] e = inl refl
  leaf_words (word ∷ more) e = let is = first_word [] word more refl e in inr (rw (is.0, is.1) refl)

-- ---- what each use of an option keeps

-- a use of the option without a fault keeps what holds of the rows
abbrev pub Keeps : (List Row → Type 0) → Rule → Type 0
Keeps P a = (values : List Text) (rows : List Row) → use_fault false a values rows ≡ [] → P rows → P (used a values rows)

module _ (P : List Row → Type 0) (s : Shape) (once : s.args_override_self ≡ false) (none : (i : ℕ) → arg_by_index s.rules i ≡ None)
    (each : Each (Keeps P) s.rules) where
  abbrev c : List Rule
  c = s.rules

  settled_keeps : (h : Held) → settle_fault c false h ≡ [] → P h.rows → P (settled c h).rows
  settled_keeps h e f = go h.pending e
    where
      by_id : (values : List Text) (x : Option Rule) → ((a : Rule) → x ≡ Some a → Keeps P a) → option_map_or (λ a. use_fault false a values h.rows) x [] ≡ [] → P (used_by_id x values h.rows)
      by_id values None keeps e = f
      by_id values (Some a) keeps e = keeps a refl values h.rows e f

      go : (o : Option (Text × List Text)) → option_map_or (λ p. option_map_or (λ a. use_fault false a p.1 h.rows) (arg_by_id c p.0) []) o [] ≡ [] → P (settled_rows c o h.rows)
      go None e = f
      go (Some p) e = by_id p.1 (arg_by_id c p.0) (found_has (Keeps P) _ c each) e

  reacted_keeps : (a : Rule) (values : List Text) (h : Held) → Keeps P a → react_fault c false a values h ≡ [] → P h.rows → P (reacted c a values h).rows
  reacted_keeps a values h keeps e f = keeps values (settled c h).rows (second_none _ _ e) (settled_keeps h (first_none _ _ e) f)

  value_keeps : (a : Rule) (v : Option Text) (h : Held) → Keeps P a → option_fault c false a v h ≡ [] → P h.rows → P (option_met c a v h).0.rows
  value_keeps a (Some v) h keeps e f = reacted_keeps a (v ∷ []) h keeps e f
  value_keeps a None h keeps e f = settled_keeps h e f

  long_keeps : (found : Option Rule) (v : Option Text) (h : Held) → ((a : Rule) → found ≡ Some a → Keeps P a) → long_fault c false found v h ≡ [] → P h.rows → P (long_met c found v h).0.rows
  long_keeps None v h keeps e f = cc
  long_keeps (Some a) v h keeps e f = go (takes_values a) v e
    where
      go : (b : Bool) (v : Option Text) → (if b then option_fault c false a v h else (if is_some v then TooManyValues ∷ [] else react_fault c false a [] h)) ≡ []
          → P (if b then option_met c a v h else flag_met c a v h).0.rows
      go true v e = value_keeps a v h (keeps a refl) e f
      go false (Some v) e = cc
      go false None e = reacted_keeps a [] h (keeps a refl) e f

  short_keeps : (found : Option Rule) (rest : Text) (h : Held) (later : Held → Kinds) (more : Held → Held × Outcome) → ((a : Rule) → found ≡ Some a → Keeps P a)
      → ((g : Held) → later g ≡ [] → P g.rows → P (more g).0.rows) → short_fault c false found rest h later ≡ [] → P h.rows → P (short_met c found rest h more).0.rows
  short_keeps None rest h later more keeps after e f = cc
  short_keeps (Some a) rest h later more keeps after e f = go (takes_values a) e
    where
      go : (b : Bool) → (if b then option_fault c false a (attached_value rest) h else or_else (react_fault c false a [] h) (later (reacted c a [] h))) ≡ []
          → P (if b then option_met c a (attached_value rest) h else more (reacted c a [] h)).0.rows
      go true e = value_keeps a (attached_value rest) h (keeps a refl) e f
      go false e = after (reacted c a [] h) (second_none _ _ e) (reacted_keeps a [] h (keeps a refl) (first_none _ _ e) f)

  bundle_keeps : (n : ℕ) (flags : Text) (skip : ℕ) (o : Outcome) (h : Held) → flags_fault c false n flags skip h ≡ [] → P h.rows → P (bundle_met c n flags skip o h).0.rows
  unfolding flags_fault bundle_met
  bundle_keeps zero flags skip o h e f = f
  bundle_keeps (suc n) flags skip o h e f = go (slice_get (chars flags) 0) skip e (bundle_keeps n)
    where
      go : (x : Option ℕ) (skip : ℕ) → bundle_step_fault c false x flags skip h (flags_fault c false n) ≡ []
          → ((rest : Text) (less : ℕ) (o : Outcome) (g : Held) → flags_fault c false n rest less g ≡ [] → P g.rows → P (bundle_met c n rest less o g).0.rows)
          → P (bundle_step c x flags skip o h (bundle_met c n)).0.rows
      go None skip e rest = f
      go (Some x) zero e rest =
          let more = drop (length (encode_utf8 x)) flags in
          short_keeps (arg_by_short c x) more h (flags_fault c false n more 0) (bundle_met c n more 0 done) (found_has (Keeps P) _ c each) (rest more 0 done) e f
      go (Some x) (suc skip) e rest = rest (drop (length (encode_utf8 x)) flags) skip o h e f

  plain_keeps : (waiting : Waiting) (word : Text) (h : Held) → P h.rows → P (plain_word c waiting word h).0.rows
  plain_keeps idle word h f = f
  plain_keeps positional word h f = f
  plain_keeps (option id) word h f = go (arg_by_id c id)
    where
      go : (x : Option Rule) → P (option_word x id word h).0.rows
      go None = f
      go (Some a) = f

  flag_keeps : (waiting : Waiting) (word : Text) (h : Held) (o : Outcome) → P h.rows → P (after_flag c waiting word h o).0.rows
  flag_keeps waiting word h done f = f
  flag_keeps waiting word h (waits id) f = f
  flag_keeps waiting word h plain f = plain_keeps waiting word h f
  flag_keeps waiting word h refused f = plain_keeps waiting word h f

  flag_word_keeps : (waiting : Waiting) (word : Text) (h : Held) (o : Option (Text × Option Text)) → flag_word_fault c false o word h ≡ [] → P h.rows → P (long_or_other c waiting word o h).0.rows
  flag_word_keeps waiting word h (Some p) e f = flag_keeps waiting word _ _ (long_keeps (arg_by_long c p.0) p.1 h (found_has (Keeps P) _ c each) e f)
  flag_word_keeps waiting word h None e f = go (short_of word) e
    where
      go : (o : Option Text) → option_map_or (λ flags. bundle_fault c false flags h) o [] ≡ [] → P (short_or_plain c waiting word o h).0.rows
      go None e = plain_keeps waiting word h f
      go (Some flags) e = flag_keeps waiting word (bundle c flags h).0 (bundle c flags h).1 (bundle_keeps (length flags) flags h.skip plain (record h { skip = 0 }) e f)

  word_keeps : (names : Names) (is_trailing : Bool) (waiting : Waiting) (position : ℕ) (word : Text) (h : Held) → word_fault s names is_trailing waiting word h ≡ []
      → P h.rows → P (word_met c names is_trailing waiting position word h).0.rows
  word_keeps names true waiting position word h e f = f
  word_keeps names false waiting position word h e f = go (subcommand_met names waiting word) e
    where
      plainly : (b : Bool) → (if b then [] else flag_word_fault c s.args_override_self (long_of word) word h) ≡ []
          → P (if b then (h, trailing position) else long_or_other c waiting word (long_of word) h).0.rows
      plainly true e = f
      plainly false e = flag_word_keeps waiting word h (long_of word) (subst (λ b. flag_word_fault c b (long_of word) word h ≡ []) once e) f

      go : (o : Option Text) → other_fault s o word h ≡ [] → P (subcommand_or_other c o waiting position word h).0.rows
      go (Some name) e = f
      go None e = plainly (bytes_eq word (45 ∷ 45 ∷ [])) e

  step_keeps : (w : Walk) (word : Text) (h : Held) (step : Step) → P h.rows → P (after_step c word w h step).held.rows
  step_keeps w word h (next waiting) f = f
  step_keeps w word h (trailing position) f = f
  step_keeps w word h (subcommand name) f = f
  step_keeps w word h value f = rw (none w.position) f

  turn_keeps : (names : Names) (w : Walk) (word : Text) → turn_fault s names w word ≡ [] → P w.held.rows → P (walked c names w word).held.rows
  unfolding walked
  turn_keeps names w word e f = go w.stopped e
    where
      go : (o : Option (Text × List Text)) → (let met = word_met c names w.is_trailing w.waiting w.position word w.held in
          if is_some o then [] else or_else (word_fault s names w.is_trailing w.waiting word w.held) (step_fault s w.position met.0 met.1)) ≡ []
          → P (walked_from c names o w word).held.rows
      go (Some p) e = f
      go None e = step_keeps w word _ _ (word_keeps names w.is_trailing w.waiting w.position word w.held (first_none _ _ e) f)

  walk_keeps : (names : Names) (w : Walk) (words : List Text) → walk_fault s names w words ≡ [] → P w.held.rows → P (fold (walked c names) w words).held.rows
  unfolding walk_fault
  walk_keeps names w [] e f = f
  walk_keeps names w (word ∷ rest) e f = walk_keeps names (walked c names w word) rest (second_none _ _ e) (turn_keeps names w word (first_none _ _ e) f)

  -- where the words are no fault, it holds before the defaults are added, and the last tests pass
  pub level_keeps : (words : List Text) → level_fault s [] nothing_held words false [] ≡ [] → P []
      → P (settled c (walk c [] nothing_held words).held).rows
      × (defaults_fault (settled c (walk c [] nothing_held words).held).rows c ≡ []) × (check_fault s (rows_after c [] words) false ≡ [])
  level_keeps words e f =
      let end = (walk c [] nothing_held words).held in
      let settle = second_none (walk_fault s [] (walk_from nothing_held) words) _ e in
      let rest = second_none (settle_fault c s.args_override_self end) _ settle in
      let ends = walk_keeps [] (walk_from nothing_held) words (first_none _ _ e) f in
      (settled_keeps end (subst (λ b. settle_fault c b end ≡ []) once (first_none _ _ settle)) ends, first_none _ _ rest, second_none (defaults_fault (settled c end).rows c) _ rest)
