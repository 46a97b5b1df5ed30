-- What the words of a command line ask for.
use Rattle.std.specs.Prelude.{◌≡◌, ◌⊎◌, ⊤, ◌≤◌, ℕ, Bool, List, [], ◌∷◌, Some, Result, drop, slice_get, codes, if◌then◌else◌}
use Rattle.std.specs.Str.Parse.{IsNumeral, digits_value, without_leading_plus}
use Rattle.clap.specs.Words.{FailsBy, Row, Text, first_of, one_of, subcommand_of}
use Rattle.clap.specs.declared.error.Error.{Error}
use Rattle.ahci_args.specs.CommandLine.{PickWords, ahci, last_entry, last_lba, last_tag, most_depth, most_sectors, most_workers}
use Rattle.ahci_args.specs.Usage.{error_byte, form_in, usage_faults}
use Rattle.ahci_args.specs.declared.pick.Pick.{Pick}
use Rattle.ahci_args.specs.declared.pick.Pick.TheVariants.{Low, High, All}
use Rattle.ahci_args.specs.declared.request.Asked.{Asked}
use Rattle.ahci_args.specs.declared.request.Asked.TheVariants.{Replay, Run, Identify, Log, Trace, Check, Draw}
use Rattle.ahci_args.specs.declared.run_form.RunForm.{RunForm}

-- after the program's name is `replay` alone, or with the `--` that ends the options
abbrev pub AsksReplay : List Text → Type 0
AsksReplay words = (drop 1 words ≡ codes "replay" ∷ []) ⊎ (drop 1 words ≡ codes "replay" ∷ codes "--" ∷ [])

-- ---- the options of the others

-- of the options that the parser has found, `name` has a number from `first` to `last`, and this is it; a plus may come
-- before its digits
pub record HasNumber (options : List Row) (name : Text) (first last n : ℕ) : Type 0 where
  pub text : Text
  pub given : one_of name options ≡ Some text
  pub digits : IsNumeral 10 (without_leading_plus text)
  pub value : n ≡ digits_value 10 (without_leading_plus text)
  pub least : first ≤ n
  pub most : n ≤ last

-- the word of `--pick`
abbrev pub word_of : Pick → Text
word_of Low = codes "low"
word_of High = codes "high"
word_of All = codes "all"

-- the option `pick` has this value, by its word or as its default
abbrev pub HasPick : List Row → Pick → Type 0
HasPick options pick = first_of (codes "pick") options ≡ Some (word_of pick)

-- the flag `name` was given, or not
abbrev pub HasFlag : List Row → Text → Bool → Type 0
HasFlag options name given = one_of name options ≡ Some (if given then codes "true" else codes "false")

-- the options that the parser has taken have values: a number of a range, a word of `--pick`, a flag
abbrev pub TakesNumber : List Row → Text → ℕ → ℕ → Type 0
TakesNumber options name first last = (n : ℕ) × HasNumber options name first last n

abbrev pub TakesPick : List Row → Type 0
TakesPick options = (pick : Pick) × HasPick options pick

abbrev pub TakesFlag : List Row → Text → Type 0
TakesFlag options name = (given : Bool) × HasFlag options name given

-- those of a run; that at most one of its flags is given is no rule of the parser
pub record TakesRun (options : List Row) : Type 0 where
  pub workers : TakesNumber options (codes "workers") 1 most_workers
  pub depth : TakesNumber options (codes "depth") 1 most_depth
  pub sectors : TakesNumber options (codes "sectors") 1 most_sectors
  pub pick : TakesPick options
  pub json : TakesFlag options (codes "json")
  pub journal : TakesFlag options (codes "journal")
  pub image : TakesFlag options (codes "image")

-- those of `identify`
pub record TakesSize (options : List Row) : Type 0 where
  pub sectors : TakesNumber options (codes "sectors") 1 most_sectors
  pub depth : TakesNumber options (codes "depth") 1 most_depth
  pub raw : TakesFlag options (codes "raw")

-- those of `log`, but for the error, which may be any text
pub record TakesPlace (options : List Row) : Type 0 where
  pub tag : TakesNumber options (codes "tag") 0 last_tag
  pub lba : TakesNumber options (codes "lba") 0 last_lba
  pub raw : TakesFlag options (codes "raw")

-- those of `check`
pub record TakesKind (options : List Row) : Type 0 where
  pub jobs : TakesFlag options (codes "jobs")
  pub json : TakesFlag options (codes "json")

-- those of `draw`
pub record TakesBounds (options : List Row) : Type 0 where
  pub from : TakesNumber options (codes "from") 0 last_entry
  pub to : TakesNumber options (codes "to") 0 last_entry

-- the options of the subcommand of this name have their values, and it is one of the seven
pub record Takes (name : Text) (options : List Row) : Type 0 where
  pub run : name ≡ codes "run" → TakesRun options
  pub identify : name ≡ codes "identify" → TakesSize options
  pub log : name ≡ codes "log" → TakesPlace options
  pub trace : name ≡ codes "trace" → TakesFlag options (codes "json")
  pub check : name ≡ codes "check" → TakesKind options
  pub draw : name ≡ codes "draw" → TakesBounds options
  pub replay : (name ≡ codes "run" → ⊥) → (name ≡ codes "identify" → ⊥) → (name ≡ codes "log" → ⊥) → (name ≡ codes "trace" → ⊥)
      → (name ≡ codes "check" → ⊥) → (name ≡ codes "draw" → ⊥) → name ≡ codes "replay"

-- ---- what they say

-- the options of a run have these values, but for its flags
pub record HasOptions (options : List Row) (w d s : ℕ) (p : Pick) : Type 0 where
  pub workers : HasNumber options (codes "workers") 1 most_workers w
  pub depth : HasNumber options (codes "depth") 1 most_depth d
  pub sectors : HasNumber options (codes "sectors") 1 most_sectors s
  pub pick : HasPick options p

-- and those with the flags, of which one at most is given
pub record HasRun (options : List Row) (w d s : ℕ) (p : Pick) (f : RunForm) : Type 0 where
  pub numbers : HasOptions options w d s p
  pub form : form_in options ≡ Some f

-- those of `identify`
pub record HasSize (options : List Row) (s d : ℕ) (r : Bool) : Type 0 where
  pub sectors : HasNumber options (codes "sectors") 1 most_sectors s
  pub depth : HasNumber options (codes "depth") 1 most_depth d
  pub raw : HasFlag options (codes "raw") r

-- those of `log`, but for the error
pub record HasPlace (options : List Row) (t l : ℕ) (r : Bool) : Type 0 where
  pub tag : HasNumber options (codes "tag") 0 last_tag t
  pub lba : HasNumber options (codes "lba") 0 last_lba l
  pub raw : HasFlag options (codes "raw") r

-- and those with the error, two hexadecimal digits
pub record HasError (options : List Row) (t e l : ℕ) (r : Bool) : Type 0 where
  pub place : HasPlace options t l r
  pub error : error_byte options ≡ Some e

-- those of `check`
pub record HasKind (options : List Row) (jobs json : Bool) : Type 0 where
  pub jobs_is : HasFlag options (codes "jobs") jobs
  pub json_is : HasFlag options (codes "json") json

-- those of `draw`
pub record HasBounds (options : List Row) (a b : ℕ) : Type 0 where
  pub from : HasNumber options (codes "from") 0 last_entry a
  pub to : HasNumber options (codes "to") 0 last_entry b

-- the subcommand by which it is asked for
abbrev pub name_of : Asked → Text
name_of Replay = codes "replay"
name_of (Trace json) = codes "trace"
name_of (Check jobs json) = codes "check"
name_of (Draw from to) = codes "draw"
name_of (Run workers depth sectors pick form) = codes "run"
name_of (Identify sectors depth raw) = codes "identify"
name_of (Log tag error lba raw) = codes "log"

-- what the options have to say
abbrev pub Says : List Row → Asked → Type 0
Says options Replay = ⊤
Says options (Trace json) = HasFlag options (codes "json") json
Says options (Check jobs json) = HasKind options jobs json
Says options (Draw from to) = HasBounds options from to
Says options (Run workers depth sectors pick form) = HasRun options workers depth sectors pick form
Says options (Identify sectors depth raw) = HasSize options sectors depth raw
Says options (Log tag error lba raw) = HasError options tag error lba raw

abbrev pub IsOf : Text → List Row → Asked → Type 0
IsOf name options asked = (name ≡ name_of asked) × Says options asked

-- ---- the whole line

-- after the program's name is the subcommand, and the parser has found options after it that say this
pub record Asks (words : List Text) (asked : Asked) : Type 0 where
  pub picks : PickWords
  pub options : List Row
  pub subcommand : slice_get words 1 ≡ Some (name_of asked)
  pub found : subcommand_of (ahci picks) words ≡ Some (name_of asked, options)
  pub has : Says options asked

abbrev pub AsksFor : List Text → Asked → Type 0
AsksFor words Replay = AsksReplay words
AsksFor words asked = Asks words asked

-- an Ok comes only where the words have no fault, and an Err has the kind of one of theirs, or is want of memory
abbrev pub FailsByUsage : List Text → Result Asked Error → Type 0
FailsByUsage words result = (picks : PickWords) × FailsBy (usage_faults picks words) result
