-- What words without a fault say: which subcommand they name, its options, and so what is answered.
use Rattle.std.proofs.Common.{◌≡◌, ◌++◌, ◌∙◌, ◌&&◌, ◌||◌, Bool, true, false, cond, not, refl, inl, inr, List, [], ◌∷◌, Option, Some, None}
use Rattle.std.proofs.Common.{is_some, ap, append_assoc, append-nil, codes, option_map, subst, sym, Box}
use Rattle.std.specs.Prelude.{drop, find, fold, ℕ, Result, Ok, Err, IfErr, IfOk, slice_get}
use Rattle.std.specs.List.{list_all, list_any}
use Rattle.std.specs.Option.{option_map_or}
use Rattle.std.specs.Str.{bytes_eq}
use Rattle.std.proofs.lemmas.Slice.Eq.{bytes_eq-Decides}
use Rattle.std.specs.Box.{box_value}
use Rattle.clap.specs.Walk.{Names, Row, Rule, Text, Walk, answers_to, arg_by_index, idle, is_empty, nothing_held, rows_after, settled, subcommand_met}
use Rattle.clap.specs.Walk.{walk, walk_from, walked}
use Rattle.clap.specs.Simple.{App, Shape, built, entered, label_of, names_of, HasMatchesOf, subcommand_of, subcommand_rows, subcommand_rows_of}
use Rattle.clap.specs.Kinds.{check_kinds, FailsBy, IsAmong, Kinds, or_else}
use Rattle.clap.specs.Faults.{built_fault, defaults_fault, entered_fault, level_fault, settle_fault, walk_fault, fault_of, is_simple_and_free}
use Rattle.clap.specs.Matches.{subcommand_name_of}
use Rattle.clap.specs.Values.{kind_of}
use Rattle.clap.specs.declared.error.Error.{Error}
use Rattle.clap.specs.declared.error.kind.ErrorKind.TheVariants.{OutOfMemory}
use Rattle.clap.specs.declared.parser.matches.ArgMatches.{ArgMatches}
use Rattle.clap.specs.declared.parser.matches.ArgMatches.TheViews.{out-ArgMatches, out-SubCommand}
use Rattle.clap.specs.declared.parser.matches.SubCommand.{SubCommand}
use Rattle.clap.proofs.OnLiterals.{clap_on_literals}
use Rattle.clap.proofs.SimpleLemmas.{is_nil, label_first}
use Rattle.clap.proofs.FaultLemmas.{first_fails}
use Rattle.ahci_args.specs.CommandLine.{PickWords, ahci}
use Rattle.ahci_args.specs.Asking.{Takes, TakesBounds, TakesFlag, TakesKind, TakesPlace, TakesRun, TakesSize, AsksFor, AsksReplay, IsOf, name_of}
use Rattle.ahci_args.specs.Usage.{usage_faults, value_fault}
use Rattle.ahci_args.specs.declared.request.Asked.{Asked}
use Rattle.ahci_args.specs.declared.request.Asked.TheVariants.{Replay}
use Rattle.ahci_args.proofs.OptionLemmas.{AreFine}
use Rattle.ahci_args.proofs.ValueLemmas.{bound, flag_at, index, number, pick_at}
use Rattle.ahci_args.proofs.WalkLemmas.{Each, first_none, second_none, Asks, first_word, leaf_words}

-- ---- the words name a subcommand

-- the words after the program's name begin with this subcommand's, and the rest are no fault of it, and give these options
pub record IsLine (app : App) (words : List Text) (name : Text) (options : List Row) : Type 0 where
  pub leaf : Shape
  pub rest : List Text
  pub named : find (λ s. answers_to name (label_of s)) app.subs ≡ Some leaf
  pub are : words ≡ name ∷ rest
  pub rows : options ≡ rows_after leaf.rules [] rest
  pub no_fault : level_fault leaf [] nothing_held rest false [] ≡ []

-- the words after a subcommand are its own
stopped : (c : List Rule) (n : Names) (w : Walk) (name : Text) (before words : List Text) → w.stopped ≡ Some (name, before)
    → (fold (walked c n) w words).stopped ≡ Some (name, before ++ words)
unfolding walked
stopped c n w name before [] e = e ∙ ap (λ (l : List Text). Some (name, l)) (sym (append-nil before))
stopped c n w name before (word ∷ words) e =
    stopped c n (walked c n w word) name (before ++ word ∷ []) words (rw e refl) ∙ ap (λ (l : List Text). Some (name, l)) (append_assoc before (word ∷ []) words)

-- one with no alias is known by its name alone
by_name : (word : Text) (subs : List Shape) (leaf : Shape) → list_all (λ s. is_empty s.aliases) subs ≡ true
    → find (λ s. answers_to word (label_of s)) subs ≡ Some leaf → word ≡ leaf.name
by_name word [] leaf plain e = cc
by_name word (s ∷ more) leaf plain e = go (is_empty s.aliases) refl plain (by_name word more leaf)
  where
    here : (b any : Bool) → any ≡ false → bytes_eq s.name word ≡ b → cond (b || any) (Some s) (find (λ s. answers_to word (label_of s)) more) ≡ Some leaf
        → (find (λ s. answers_to word (label_of s)) more ≡ Some leaf → word ≡ leaf.name) → word ≡ leaf.name
    here b true alone is e rest = cc
    here true false alone is e rest = let first : s ≡ leaf = cc in sym ((bytes_eq-Decides s.name word).0 is) ∙ ap (λ (x : Shape). x.name) first
    here false false alone is e rest = rest e

    go : (b : Bool) → is_empty s.aliases ≡ b → (b && list_all (λ s. is_empty s.aliases) more) ≡ true
        → (list_all (λ s. is_empty s.aliases) more ≡ true → find (λ s. answers_to word (label_of s)) more ≡ Some leaf → word ≡ leaf.name) → word ≡ leaf.name
    go true none plain rest = here (bytes_eq s.name word) _ (ap (list_any (λ (alias : Text). bytes_eq alias word)) (is_nil s.aliases none)) refl e (rest plain)
    go false none plain rest = cc

module _ (app : App) (none : (i : ℕ) → arg_by_index app.top.rules i ≡ None) (asks : Each (Asks app.top.args_override_self) app.top.rules)
    (plain : list_all (λ s. is_empty s.aliases) app.subs ≡ true) where
  called : (word : Text) (o : Option Shape) → find (λ s. answers_to word (label_of s)) app.subs ≡ o → subcommand_met (names_of app) idle word ≡ option_map (λ s. s.name) o
  called word o is = sym (label_first word app.subs) ∙ ap (option_map (λ (s : Shape). s.name)) is

  stops : (word : Text) (rest : List Text) (leaf : Shape) → find (λ s. answers_to word (label_of s)) app.subs ≡ Some leaf
      → (walk app.top.rules (names_of app) nothing_held (word ∷ rest)).stopped ≡ Some (word, rest)
  unfolding walked
  stops word rest leaf is =
      let first : (walked app.top.rules (names_of app) (walk_from nothing_held) word).stopped ≡ Some (leaf.name, []) = rw (called word (Some leaf) is) refl in
      stopped app.top.rules (names_of app) (walked app.top.rules (names_of app) (walk_from nothing_held) word) word [] rest
      (first ∙ ap (λ (n : Text). Some (n, [])) (sym (by_name word app.subs leaf plain is)))

  pub line : {name : Text} {options : List Row} (words : List Text) → built_fault app nothing_held words ≡ []
      → entered app (walk app.top.rules (names_of app) nothing_held words).stopped ≡ Some (name, options) → IsLine app words name options
  line [] e at = cc
  line {name} {options} (word ∷ rest) e at = go (find (λ s. answers_to word (label_of s)) app.subs) refl
    where
      go : (o : Option Shape) → find (λ s. answers_to word (label_of s)) app.subs ≡ o → IsLine app (word ∷ rest) name options
      go None is =
          let dashes = first_word app.top none asks (names_of app) word rest (called word None is) (first_none _ _ e) in
          let bad : ◌≡◌ {A = Option (Text × List Row)} None (Some (name, options)) = subst (λ o. entered app o ≡ Some (name, options)) dashes.2 at in cc
      go (Some leaf) is =
          let stop = stops word rest leaf is in
          let found : Some (leaf.name, rows_after leaf.rules [] rest) ≡ Some (name, options) = rw is at (subst (λ o. entered app o ≡ Some (name, options)) stop at) in
          let same : word ≡ name = by_name word app.subs leaf plain is ∙ ap (λ (o : Option (Text × List Row)). option_map_or (λ p. p.0) o name) found in
          let below = subst (λ o. entered_fault app o ≡ []) stop (first_none _ _ (second_none (walk_fault app.top (names_of app) (walk_from nothing_held) (word ∷ rest)) _ e)) in
          record {
            leaf = leaf;
            rest = rest;
            named = subst (λ (n : Text). find (λ s. answers_to n (label_of s)) app.subs ≡ Some leaf) same is;
            are = ap (λ (n : Text). n ∷ rest) same;
            rows = ap (λ (o : Option (Text × List Row)). option_map_or (λ p. p.1) o options) (sym found);
            no_fault = rw is at below;
          }

  -- they do name one where the command wants one
  pub enters : (words : List Text) → app.top.subcommand_required ≡ true → built_fault app nothing_held words ≡ []
      → is_some (entered app (walk app.top.rules (names_of app) nothing_held words).stopped) ≡ true
  enters words required e =
      let end = (walk app.top.rules (names_of app) nothing_held words).held in
      let settle = second_none (entered_fault app _) _ (second_none (walk_fault app.top (names_of app) (walk_from nothing_held) words) _ e) in
      let defaults = second_none (settle_fault app.top.rules app.top.args_override_self end) _ settle in
      go _ _ app.top.subcommand_required _ required (second_none (defaults_fault (settled app.top.rules end).rows app.top.rules) _ defaults)
    where
      go : (x h r z : Bool) → r ≡ true → check_kinds x (not h && r) z ≡ [] → h ≡ true
      go true h r z is e = cc
      go false true r z is e = refl
      go false false true z is e = cc
      go false false false z is e = cc

-- ---- its options have their values

differs : (word name : Text) → (name ≡ word → ⊥) → bytes_eq word name ≡ false
differs word name other = go (bytes_eq word name) refl
  where
    go : (b : Bool) → bytes_eq word name ≡ b → b ≡ false
    go true is = absurd (other (sym ((bytes_eq-Decides word name).0 is)))
    go false is = refl

module _ (picks : PickWords) {words : List Text} {name : Text} {options : List Row} (is_line : IsLine (built (ahci picks)) words name options) where
  pub leaf_at : (word : Text) (leaf : Shape) → find (λ s. answers_to word (label_of s)) (built (ahci picks)).subs ≡ Some leaf → name ≡ word → is_line.leaf ≡ leaf
  leaf_at word leaf named is =
      let same : Some leaf ≡ Some is_line.leaf = sym named ∙ (ap (λ (n : Text). find (λ s. answers_to n (label_of s)) (built (ahci picks)).subs) (sym is) ∙ is_line.named) in cc

  at_name : (T : List Row → Type 0) (word : Text) (leaf : Shape) → find (λ s. answers_to word (label_of s)) (built (ahci picks)).subs ≡ Some leaf → leaf.args_override_self ≡ false
      → ((i : ℕ) → arg_by_index leaf.rules i ≡ None) → ((rest : List Text) → AreFine leaf rest → T (rows_after leaf.rules [] rest)) → name ≡ word → T options
  at_name T word leaf named once none takes is =
      let same = leaf_at word leaf named is in
      let fine : AreFine leaf is_line.rest = record { no_fault = subst (λ s. level_fault s [] nothing_held is_line.rest false [] ≡ []) same is_line.no_fault; once = once; none = none } in
      subst T (sym (is_line.rows ∙ ap (λ (s : Shape). rows_after s.rules [] is_line.rest) same)) (takes is_line.rest fine)

  helps : built_fault (built (ahci picks)) nothing_held words ≡ [] → name ≡ codes "help" → ⊥
  unfolding clap_on_literals
  helps e is = let bad = rw (is_line.are, is) at e in cc

  pub takes : built_fault (built (ahci picks)) nothing_held words ≡ [] → Takes name options
  takes e = record {
    run = at_name TakesRun (codes "run") _ refl refl (λ i. refl) (λ rest fine. record {
      workers = number fine 0 refl refl;
      depth = number fine 1 refl refl;
      sectors = number fine 2 refl refl;
      pick = pick_at fine 3 picks refl refl;
      json = flag_at fine 4 refl refl;
      journal = flag_at fine 5 refl refl;
      image = flag_at fine 6 refl refl;
    });
    identify = at_name TakesSize (codes "identify") _ refl refl (λ i. refl)
        (λ rest fine. record { sectors = number fine 0 refl refl; depth = number fine 1 refl refl; raw = flag_at fine 2 refl refl });
    log = at_name TakesPlace (codes "log") _ refl refl (λ i. refl)
        (λ rest fine. record { tag = index fine 0 refl refl; lba = index fine 2 refl refl; raw = flag_at fine 3 refl refl });
    trace = at_name (λ o. TakesFlag o (codes "json")) (codes "trace") _ refl refl (λ i. refl) (λ rest fine. flag_at fine 0 refl refl);
    check = at_name TakesKind (codes "check") _ refl refl (λ i. refl) (λ rest fine. record { jobs = flag_at fine 0 refl refl; json = flag_at fine 1 refl refl });
    draw = at_name TakesBounds (codes "draw") _ refl refl (λ i. refl) (λ rest fine. record { from = bound fine 0 refl refl; to = bound fine 1 refl refl });
    replay = λ run identify log trace check draw. go (bytes_eq (codes "replay") name) refl (differs _ _ trace) (differs _ _ check) (differs _ _ draw) (differs _ _ run)
        (differs _ _ identify) (differs _ _ log) (differs (codes "help") name (helps e));
  }
    where
      go : (b : Bool) → bytes_eq (codes "replay") name ≡ b → bytes_eq (codes "trace") name ≡ false → bytes_eq (codes "check") name ≡ false → bytes_eq (codes "draw") name ≡ false
          → bytes_eq (codes "run") name ≡ false → bytes_eq (codes "identify") name ≡ false → bytes_eq (codes "log") name ≡ false → bytes_eq (codes "help") name ≡ false → name ≡ codes "replay"
      go true is t k w r i l h = sym ((bytes_eq-Decides (codes "replay") name).0 is)
      go false is t k w r i l h = let bad = rw (is, t, k, w, r, i, l, h) at is_line.named in cc

-- the words of `--pick` at some place
pub some_picks : PickWords
some_picks = record {
  words = record { ref_ptr = (0, 0); now = record { ref_ptr = (0, 0); now = codes "low" } ∷ record { ref_ptr = (0, 0); now = codes "high" } ∷ record { ref_ptr = (0, 0); now = codes "all" } ∷ [] };
  are = refl;
}

-- ---- the command is simple, so that its faults and matches are known

-- a parse fails by a fault of the words
pub known_faults : {T : Type 0} {app : App} (picks : PickWords) (words : List Text) (r : Result T Error) {e : Error} → app ≡ ahci picks → r ≡ Err e
    → (is_simple_and_free app ≡ true → FailsBy (fault_of app words) r) → FailsBy (usage_faults picks words) r
known_faults picks words (Ok x) is failed kinds = cc
known_faults {T} picks words (Err e) is failed kinds =
    first_fails (fault_of (ahci picks) words) _ (kind_of e) (subst (λ a. is_simple_and_free a ≡ true → FailsBy {T = T} (fault_of a words) (Err e)) is kinds refl)

-- a subcommand that was met, in words without a fault
pub record IsMet (picks : PickWords) (words : List Text) (name : Text) (options : List Row) : Type 0 where
  pub no_fault : fault_of (ahci picks) words ≡ []
  pub found : subcommand_of (ahci picks) words ≡ Some (name, options)
  pub is_line : IsLine (built (ahci picks)) (drop 1 words) name options
  pub takes : Takes name options

names_agree : {Z : Type 0} (o : Option (Box SubCommand Z)) → option_map (λ b. (out-SubCommand (box_value b)).name.now) o ≡ option_map (λ p. p.0) (subcommand_rows o)
names_agree None = refl
names_agree (Some b) = refl

both_parts : (o : Option (Text × List Row)) (name : Text) (options : List Row) → Some name ≡ option_map (λ p. p.0) o → Some options ≡ option_map (λ p. p.1) o → o ≡ Some (name, options)
both_parts None name options first second = cc
both_parts (Some (n, l)) name options first second =
    let a : n ≡ name = cc in
    let b : l ≡ options = cc in
    ap (λ x. Some (x, l)) a ∙ ap (λ x. Some (name, x)) b

module _ {app : App} (picks : PickWords) (words : List Text) (m : ArgMatches) (is : app ≡ ahci picks) (kinds : is_simple_and_free app ≡ true → fault_of app words ≡ [])
    (has : HasMatchesOf app words m) where
  none : fault_of (ahci picks) words ≡ []
  none = subst (λ a. is_simple_and_free a ≡ true → fault_of a words ≡ []) is kinds refl

  rows : subcommand_rows_of m ≡ subcommand_of (ahci picks) words
  rows = (subst (λ a. HasMatchesOf a words m) is has refl).1

  -- the matches name it
  pub met : (name : Text) (options : List Row) → Some name ≡ subcommand_name_of m → Some options ≡ option_map (λ p. p.1) (subcommand_rows_of m) → IsMet picks words name options
  met name options named given =
      let found = sym rows ∙ both_parts (subcommand_rows_of m) name options (named ∙ names_agree (out-ArgMatches m).subcommand) given in
      let is_line = line (built (ahci picks)) (λ i. refl) ((refl, λ rows e. cc), ((refl, λ rows e. cc), tt)) refl (drop 1 words) none found in
      record { no_fault = none; found = found; is_line = is_line; takes = takes picks is_line none }

  -- and they do name one
  pub not_unnamed : None ≡ subcommand_name_of m → ⊥
  not_unnamed unnamed =
      go (subcommand_rows_of m) (unnamed ∙ names_agree (out-ArgMatches m).subcommand)
      (ap (λ o. is_some o) rows ∙ enters (built (ahci picks)) (λ i. refl) ((refl, λ rows e. cc), ((refl, λ rows e. cc), tt)) refl (drop 1 words) refl none)
    where
      go : (o : Option (Text × List Row)) → None ≡ option_map (λ p. p.0) o → is_some o ≡ true → ⊥
      go None unnamed some = cc
      go (Some p) unnamed some = cc

-- ---- `replay` has no fault

-- the faults of the words after the program's name
abbrev faults_at : PickWords → List Text → Kinds
faults_at picks more =
    let app = built (ahci picks) in
    or_else (built_fault app nothing_held more) (value_fault (entered app (walk app.top.rules (names_of app) nothing_held more).stopped))

asks_taken : (picks : PickWords) (words : List Text) → AsksReplay words → usage_faults picks words ≡ []
unfolding clap_on_literals
asks_taken picks words (inl is) = ap (faults_at picks) is
asks_taken picks words (inr is) = ap (faults_at picks) is

-- words that ask for it fail for want of memory alone
pub asks_memory : {T : Type 0} (picks : PickWords) (r : Result T Error) (words : List Text) → FailsBy (usage_faults picks words) r → IfErr r (λ e. AsksReplay words → kind_of e ≡ OutOfMemory)
asks_memory picks (Ok x) words h = tt
asks_memory picks (Err e) words (inl memory) = λ asks. memory
asks_memory picks (Err e) words (inr among) = λ asks. absurd (subst (IsAmong (kind_of e)) (asks_taken picks words asks) among)

-- ---- what is answered

second_word : (words more : List Text) (word : Text) → drop 1 words ≡ word ∷ more → slice_get words 1 ≡ Some word
second_word [] more word is = cc
second_word (x ∷ []) more word is = cc
second_word (x ∷ y ∷ ys) more word is = let same : y ≡ word = cc in ap Some same

module _ {picks : PickWords} {words : List Text} {name : Text} {options : List Row} (met : IsMet picks words name options) where
  replays : name ≡ codes "replay" → AsksReplay words
  replays is =
      let same = leaf_at picks met.is_line (codes "replay") _ refl is in
      let none = subst (λ (s : Shape). level_fault s [] nothing_held met.is_line.rest false [] ≡ []) same met.is_line.no_fault in
      elim (leaf_words _ (λ i. refl) ((refl, λ rows e. cc), tt) met.is_line.rest (first_none _ _ none)) [
        | inl end ↦ inl (rw (met.is_line.are, is, end) refl)
        | inr end ↦ inr (rw (met.is_line.are, is, end) refl)
      ]

  pub asks : (asked : Asked) → IsOf name options asked → AsksFor words asked
  asks Replay is = replays is.0
  asks asked is = record {
    picks = picks;
    options = options;
    subcommand = second_word words met.is_line.rest (name_of asked) (met.is_line.are ∙ ap (λ (n : Text). n ∷ met.is_line.rest) is.0);
    found = met.found ∙ ap (λ (n : Text). Some (n, options)) is.0;
    has = is.1;
  }

  pub all_asked : (r : Result Asked Error) → IfOk r (λ asked. IsOf name options asked) → IfOk r (λ asked. AsksFor words asked)
  all_asked (Ok asked) is = asks asked is
  all_asked (Err e) is = tt

  pub value_fails : {T : Type 0} (r : Result T Error) → FailsBy (value_fault (Some (name, options))) r → FailsBy (usage_faults picks words) r
  value_fails r fails =
      subst (λ k. FailsBy k r) (sym (ap (λ k. or_else k (value_fault (subcommand_of (ahci picks) words))) met.no_fault ∙ ap value_fault met.found)) fails

-- ---- a flag is read as it was given

pub flag_read : (o : Option Text) (given read : Bool) → o ≡ Some (cond given (codes "true") (codes "false"))
    → (o ≡ Some (codes "true") → read ≡ true) → (o ≡ Some (codes "false") → read ≡ false) → o ≡ Some (cond read (codes "true") (codes "false"))
flag_read o true read is on off = is ∙ ap (λ b. Some (cond b (codes "true") (codes "false"))) (sym (on is))
flag_read o false read is on off = is ∙ ap (λ b. Some (cond b (codes "true") (codes "false"))) (sym (off is))
