use Rattle.std.proofs.Common.{◌≡◌, ◌∙◌, List, Option, Some, None, ap, codes, option_map, refl, sym}
use Rattle.std.specs.Borrow.{Bor}
use Rattle.std.specs.Option.{IsSome}
use Rattle.clap.specs.Words.{Row, Text, first_of, found_of, rows_of}
use Rattle.clap.proofs.WalkLemmas.{first_value-rows}
use Rattle.ahci_args.specs.Asking.{HasPick, word_of}
use Rattle.ahci_args.specs.declared.pick.Pick.{Pick}
use Rattle.ahci_args.specs.declared.pick.Pick.TheVariants.{Low, High, All}
use Rattle.ahci_args.proofs.parse.pick.Goals as goal
use Rattle.ahci_args.proofs.parse.pick.Goals.{After-unwrap}

some_text : (o : Option (Bor Text)) (t : Text) → option_map (λ (s : Bor Text). s.now) o ≡ Some t → IsSome o
some_text None t e = cc
some_text (Some x) t e = refl

-- the word that was read is the option's
word_is : (c : After-unwrap) → first_of (codes "pick") (rows_of (found_of c.args.options.now)) ≡ Some c.unwrap.result.now
word_is c =
    sym (first_value-rows (found_of c.args.options.now) (codes "pick")) ∙ (sym c.get_str.ensures ∙ ap (option_map (λ (s : Bor Text). s.now)) c.unwrap.ensures)

-- and one of the three
no_other : (options : List Row) (word : Text) (pick : Pick) → first_of (codes "pick") options ≡ Some word → HasPick options pick
    → (word ≡ codes "low" → ⊥) → (word ≡ codes "high" → ⊥) → (word ≡ codes "all" → ⊥) → ⊥
no_other options word Low is has low high all = low (cc)
no_other options word High is has low high all = high (cc)
no_other options word All is has low high all = all (cc)

pub unwrap-requires : goal.unwrap-requires
unwrap-requires c =
    some_text c.get_str.result (word_of c.requires.0) (c.get_str.ensures ∙ (first_value-rows (found_of c.args.options.now) (codes "pick") ∙ c.requires.1))

pub unreachable-requires : goal.unreachable-requires
unreachable-requires c =
    no_other (rows_of (found_of c.args.options.now)) c.unwrap.result.now c.requires.0 (word_is (goal.at.unreachable-requires c).After-unwrap) c.requires.1
    c.in_default.not-low c.in_default.not-high c.in_default.not-all

pub returns-in-low : goal.returns-in-low
returns-in-low c = word_is (goal.at.returns-in-low c).After-unwrap ∙ ap Some c.in-low.is

pub returns-in-high : goal.returns-in-high
returns-in-high c = word_is (goal.at.returns-in-high c).After-unwrap ∙ ap Some c.in-high.is

pub returns-in-all : goal.returns-in-all
returns-in-all c = word_is (goal.at.returns-in-all c).After-unwrap ∙ ap Some c.in-all.is
