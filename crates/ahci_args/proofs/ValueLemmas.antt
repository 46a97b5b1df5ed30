-- The values of a subcommand's options, where its words are no fault: each is in its range.
use Rattle.std.proofs.Common.{◌≡◌, ◌≤◌, ◌∙◌, ◌==◌, ℕ, Bool, true, false, refl, inl, inr, List, [], ◌∷◌, Some, codes, subst, sym, ap, arith}
use Rattle.std.specs.Borrow.{Bor}
use Rattle.std.specs.Prelude.{pos, slice_get}
use Rattle.std.specs.List.{list_any}
use Rattle.std.specs.Str.{bytes_eq}
use Rattle.std.specs.Str.Parse.{IsNumeral, digits_value, without_leading_plus}
use Rattle.std.proofs.lemmas.Bool.{or_cases}
use Rattle.std.proofs.lemmas.Int.{ints}
use Rattle.std.proofs.lemmas.Slice.Eq.{bytes_eq-Decides}
use Rattle.clap.specs.Lexer.{without_minus}
use Rattle.clap.specs.Values.{IsSignedIn}
use Rattle.clap.specs.ValueTests.{accepts}
use Rattle.clap.specs.Walk.{Row, Text, one_of, rows_after}
use Rattle.clap.specs.Simple.{Shape, filled}
use Rattle.clap.specs.declared.builder.value_parser.ValueParser.TheVariants.{Signed, Unsigned}
use Rattle.clap.proofs.ValueTestLemmas.{accepts-Accepts}
use Rattle.clap.proofs.WalkLemmas.{list_any-map}
use Rattle.ahci_args.specs.CommandLine.{PickWords, bound_option, flag, index_option, number_option, pick_option}
use Rattle.ahci_args.specs.Asking.{TakesFlag, TakesNumber, TakesPick}
use Rattle.ahci_args.specs.declared.pick.Pick.TheVariants.{Low, High, All}
use Rattle.ahci_args.proofs.OptionLemmas.{AreFine, are_others, checks, option_text}
use Rattle.ahci_args.proofs.WalkLemmas.{second_none}

-- a text that passed a range from 1 on has no minus, and its digits are a number of the range
abbrev IsNumeralTo : ℕ → Text → Type 0
IsNumeralTo last t = IsNumeral 10 t × (1 ≤ digits_value 10 t) × (digits_value 10 t ≤ last)

signed_text : (last : ℕ) (t : Text) → IsSignedIn (pos 1) (pos last) t → IsNumeralTo last (without_leading_plus (without_minus t))
signed_text last [] h = absurd (omega (arith, h.0.0))
signed_text last (x ∷ xs) h = go (x == 45) refl
  where
    go : (b : Bool) → (x == 45) ≡ b → IsNumeralTo last (without_leading_plus (without_minus (x ∷ xs)))
    go true is = let low = rw is at h.2 in absurd (omega (arith, ints))
    go false is =
        let numeral = rw is at h.0 in
        let low = rw is at h.2 in
        let high = rw is at h.3 in
        rw is (numeral, omega (arith, ints), omega (arith, ints))

unsigned : {rows : List Row} {name : Text} (last : ℕ) (text : Text) → one_of name rows ≡ Some text → accepts false (Unsigned 0 last) text ≡ true → TakesNumber rows name 0 last
unsigned last text one passed =
    let fine = accepts-Accepts false (Unsigned 0 last) text passed in
    (digits_value 10 (without_leading_plus text), record { text = text; given = one; digits = fine.0; value = refl; least = fine.2; most = fine.3 })

-- ---- the option at a place of a subcommand

module _ {leaf : Shape} {words : List Text} (fine : AreFine leaf words) (n : ℕ) where
  pub number : {name : Text} {last : ℕ} → slice_get leaf.rules n ≡ Some (filled (number_option name last)) → are_others n name leaf.rules ≡ true
      → TakesNumber (rows_after leaf.rules [] words) name 1 last
  number {name} {last} at others =
      let a = filled (number_option name last) in
      let t = option_text fine n a at others (checks a (λ vs rows e. second_none _ _ e) (λ rows e. cc)) (inl refl) in
      let in_range = signed_text last t.text (accepts-Accepts false (Signed (pos 1) (pos last)) t.text t.passed) in (
        digits_value 10 (without_leading_plus (without_minus t.text)),
        record { text = without_minus t.text; given = t.one; digits = in_range.0; value = refl; least = in_range.1; most = in_range.2 },
      )

  pub index : {name : Text} {last : ℕ} → slice_get leaf.rules n ≡ Some (filled (index_option name last)) → are_others n name leaf.rules ≡ true
      → TakesNumber (rows_after leaf.rules [] words) name 0 last
  index {name} {last} at others =
      let a = filled (index_option name last) in
      let t = option_text fine n a at others (checks a (λ vs rows e. second_none _ _ e) (λ rows e. cc)) (inl refl) in
      unsigned last t.text t.one t.passed

  pub bound : {name default : Text} {last : ℕ} → slice_get leaf.rules n ≡ Some (filled (bound_option name last default)) → are_others n name leaf.rules ≡ true
      → TakesNumber (rows_after leaf.rules [] words) name 0 last
  bound {name} {default} {last} at others =
      let a = filled (bound_option name last default) in
      let t = option_text fine n a at others (checks a (λ vs rows e. second_none _ _ e) (λ rows e. cc)) (inr tt) in
      unsigned last t.text t.one t.passed

  pub flag_at : {name : Text} → slice_get leaf.rules n ≡ Some (filled (flag name)) → are_others n name leaf.rules ≡ true → TakesFlag (rows_after leaf.rules [] words) name
  flag_at {name} at others =
      let a = filled (flag name) in
      let t = option_text fine n a at others (checks a (λ vs rows e. second_none _ _ e) (λ rows e. tt)) (inr tt) in
      elim (or_cases (bytes_eq t.text (codes "true")) (bytes_eq t.text (codes "false")) t.passed) [
        | inl on ↦ (true, t.one ∙ ap Some ((bytes_eq-Decides t.text (codes "true")).0 on))
        | inr off ↦ (false, t.one ∙ ap Some ((bytes_eq-Decides t.text (codes "false")).0 off))
      ]

  pub pick_at : (picks : PickWords) → slice_get leaf.rules n ≡ Some (filled (pick_option picks)) → are_others n (codes "pick") leaf.rules ≡ true
      → TakesPick (rows_after leaf.rules [] words)
  pick_at picks at others =
      let a = filled (pick_option picks) in
      let t = option_text fine n a at others (checks a (λ vs rows e. second_none _ _ e) (λ rows e. cc)) (inr tt) in
      let among = sym (list_any-map (λ (word : Text). bytes_eq word t.text) (λ (word : Bor Text). word.now) picks.words.now) ∙ t.passed in
      let is = λ (word : Text) (e : bytes_eq word t.text ≡ true). t.first ∙ ap Some (sym ((bytes_eq-Decides word t.text).0 e)) in
      elim (or_cases (bytes_eq (codes "low") t.text) _ (subst (λ (l : List Text). list_any (λ (word : Text). bytes_eq word t.text) l ≡ true) picks.are among)) [
        | inl low ↦ (Low, is (codes "low") low)
        | inr more ↦ elim (or_cases (bytes_eq (codes "high") t.text) _ more) [
          | inl high ↦ (High, is (codes "high") high)
          | inr most ↦ elim (or_cases (bytes_eq (codes "all") t.text) false most) [ inl all ↦ (All, is (codes "all") all) | inr none ↦ cc ]
        ]
      ]
