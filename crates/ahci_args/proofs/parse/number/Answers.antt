use Rattle.std.proofs.Common.{◌≡◌, ◌∙◌, ◌<◌, ◌^◌, ℕ, Some, None, Option, sym, ap, subst, refl, arith}
use Rattle.std.specs.Option.{IsSome}
use Rattle.std.specs.Str.Parse.{ExplainsUnsignedError, HasUnsignedDigitsIfOk, ParsesUnsigned}
use Rattle.clap.specs.Words.{ReadsOne, found_of, rows_of}
use Rattle.clap.proofs.WalkLemmas.{one_text-rows}
use Rattle.ahci_args.specs.Asking.{HasNumber}
use Rattle.ahci_args.proofs.parse.number.Goals as goal
use Rattle.ahci_args.proofs.parse.number.Goals.{After-get_one}

some_number : (o : Option ℕ) (n : ℕ) → o ≡ Some n → IsSome o
some_number None n e = cc
some_number (Some x) n e = refl

-- a number of 64 bits is read as itself
is_read : (c : After-get_one) → c.get_one.result ≡ Some c.requires.0
is_read c = go c.get_one.result (c.get_one.ensures.value has.text (one_text-rows (found_of c.args.options.now) c.args.name.now ∙ has.given))
  where
    has : HasNumber (rows_of (found_of c.args.options.now)) c.args.name.now 0 18446744073709551615 c.requires.0
    has = c.requires.1

    go : (o : Option ℕ) → ReadsOne (λ t x. ParsesUnsigned 64 10 t x × ExplainsUnsignedError 10 t x × HasUnsignedDigitsIfOk t x) has.text o → o ≡ Some c.requires.0
    go (Some v) h = ap Some (h.0.1 ∙ sym has.value)
    go None h = absurd (h.1.0 (has.digits, subst (λ (m : ℕ). m < 2 ^ 64) has.value (omega (arith, has.most))))

pub unwrap-requires : goal.unwrap-requires
unwrap-requires c = some_number c.get_one.result c.requires.0 (is_read c)

pub returns : goal.returns
returns c = λ first last n has.
    let wanted : HasNumber (rows_of (found_of c.args.options.now)) c.args.name.now 0 18446744073709551615 c.requires.0 = c.requires.1 in
    let is : Some c.unwrap.result ≡ Some c.requires.0 = sym c.unwrap.ensures ∙ is_read (goal.at.returns c).After-get_one in
    cc (wanted.given, wanted.value, has.given, has.value)
