-- The command line of `ahci`, as its parser knows it.
use Rattle.std.specs.Prelude.{◌≡◌, ⊤, ℕ, true, false, pos, List, [], ◌∷◌, Some, map, fold, codes}
use Rattle.std.specs.Borrow.{Bor}
use Rattle.clap.specs.Words.{App, Rule, Shape, Text, new_app, new_rule, shape_of, with_rule, with_subcommand}
use Rattle.clap.specs.declared.builder.arg.Arg.{Arg}
use Rattle.clap.specs.declared.builder.command.Command.{Command}
use Rattle.clap.specs.declared.builder.command.Command.TheViews.{out-Command as fields_of}
use Rattle.clap.specs.declared.builder.action.ArgAction.TheVariants.{SetTrue}
use Rattle.clap.specs.declared.builder.value_parser.ValueParser.TheVariants.{Names, Signed, Unsigned}

-- the most slots of a port and sectors of a disk
abbrev pub most_depth : ℕ
most_depth = 32

abbrev pub most_sectors : ℕ
most_sectors = 131072

-- an option that has to be given, with a number from 1 to `most`
abbrev pub number_option : Text → ℕ → Rule
number_option name most = record (new_rule name) {
  long = Some name;
  value_names = 1;
  required = true;
  parser = Some (Signed (pos 1) (pos most));
}

-- an option that has to be given, with a number from 0 to `last`
abbrev pub index_option : Text → ℕ → Rule
index_option name last = record (new_rule name) {
  long = Some name;
  value_names = 1;
  required = true;
  parser = Some (Unsigned 0 last);
}

-- the last number of 64 bits
abbrev pub last_entry : ℕ
last_entry = 18446744073709551615

-- an option with a number from 0 to `last`, which is `default` unless it is given
abbrev pub bound_option : Text → ℕ → Text → Rule
bound_option name last default = record (new_rule name) {
  long = Some name;
  value_names = 1;
  defaults = default ∷ [];
  parser = Some (Unsigned 0 last);
}

-- the option `--error`, which has to be given, with any text
abbrev pub error_option : Rule
error_option = record (new_rule (codes "error")) {
  long = Some (codes "error");
  value_names = 1;
  required = true;
}

-- a flag, which takes no value
abbrev pub flag : Text → Rule
flag name = record (new_rule name) {
  long = Some name;
  action = Some SetTrue;
}

-- the words that `--pick` takes; their places in memory say nothing
pub record PickWords : Type 0 where
  pub words : Bor (List (Bor Text))
  pub are : map (λ word. word.now) words.now ≡ codes "low" ∷ codes "high" ∷ codes "all" ∷ []

-- the option `--pick`, which is `low` unless it is given
abbrev pub pick_option : PickWords → Rule
pick_option picks = record (new_rule (codes "pick")) {
  long = Some (codes "pick");
  value_names = 1;
  defaults = codes "low" ∷ [];
  parser = Some (Names picks.words);
}

-- the most workers of a run
abbrev pub most_workers : ℕ
most_workers = 32

-- the last tag, and the last LBA of 48 bits
abbrev pub last_tag : ℕ
last_tag = 31

abbrev pub last_lba : ℕ
last_lba = 281474976710655

-- a subcommand with these options
abbrev pub with_options : Text → List Rule → Shape
with_options name rules = (fold with_rule (new_app name) rules).top

-- the subcommands; `replay` takes no arguments
abbrev pub replay : Shape
replay = with_options (codes "replay") []

abbrev pub trace : Shape
trace = with_options (codes "trace") (flag (codes "json") ∷ [])

abbrev pub check : Shape
check = with_options (codes "check") (flag (codes "jobs") ∷ flag (codes "json") ∷ [])

abbrev pub draw : Shape
draw = with_options (codes "draw") (
    bound_option (codes "from") last_entry (codes "0")
    ∷ bound_option (codes "to") last_entry (codes "18446744073709551615") ∷ [])

abbrev pub run : PickWords → Shape
run picks = with_options (codes "run") (
    number_option (codes "workers") most_workers
    ∷ number_option (codes "depth") most_depth
    ∷ number_option (codes "sectors") most_sectors
    ∷ pick_option picks
    ∷ flag (codes "json")
    ∷ flag (codes "journal")
    ∷ flag (codes "image") ∷ [])

abbrev pub identify : Shape
identify = with_options (codes "identify") (
    number_option (codes "sectors") most_sectors
    ∷ number_option (codes "depth") most_depth
    ∷ flag (codes "raw") ∷ [])

abbrev pub log : Shape
log = with_options (codes "log") (
    index_option (codes "tag") last_tag
    ∷ error_option
    ∷ index_option (codes "lba") last_lba
    ∷ flag (codes "raw") ∷ [])

-- `ahci` without its subcommands: it has a version, and wants a subcommand
abbrev pub top : Shape
top = record (new_app (codes "ahci")).top { has_version = true; subcommand_required = true }

abbrev pub ahci : PickWords → App
ahci picks = fold with_subcommand (record { top = top; subs = [] }) (replay ∷ trace ∷ check ∷ draw ∷ run picks ∷ identify ∷ log ∷ [])

-- what the parser has been given
abbrev pub IsPickOption : Rule → Type 0
IsPickOption rule = (picks : PickWords) × (rule ≡ pick_option picks)

abbrev pub IsSubcommand : Shape → Command → Type 0
IsSubcommand shape c = (shape_of c ≡ shape) × ((fields_of c).has_globals ≡ false)

abbrev pub IsAhci : App → Type 0
IsAhci app = (picks : PickWords) × (app ≡ ahci picks)

-- no argument is for the subcommands too
abbrev pub AreLocal : List Arg → Type 0
AreLocal [] = ⊤
AreLocal (a ∷ rest) = (a.global ≡ false) × AreLocal rest
