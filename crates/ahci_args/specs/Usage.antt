-- What may be wrong with the words of a command line.
use Rattle.std.specs.Prelude.{ℕ, ◌+◌, ◌*◌, ◌&&◌, Bool, true, false, List, [], ◌∷◌, Option, None, Some, is_none, nat_lt, option_and_then, codes, if◌then◌else◌}
use Rattle.std.specs.Char.{digit_value}
use Rattle.std.specs.Str.{bytes_eq}
use Rattle.clap.specs.Kinds.{or_else}
use Rattle.clap.specs.Words.{Kinds, Row, Text, fault_of, first_of, one_of, subcommand_of}
use Rattle.clap.specs.declared.error.kind.ErrorKind.TheVariants.{ArgumentConflict, ValueValidation}
use Rattle.ahci_args.specs.CommandLine.{PickWords, ahci}
use Rattle.ahci_args.specs.declared.run_form.RunForm.{RunForm}
use Rattle.ahci_args.specs.declared.run_form.RunForm.TheVariants as form

-- the byte that two hexadecimal digits of either case spell
abbrev pub hex_byte : Text → Option ℕ
hex_byte (high ∷ low ∷ []) =
    if nat_lt (digit_value high) 16 && nat_lt (digit_value low) 16 then Some (16 * digit_value high + digit_value low) else None
hex_byte other = None

-- the byte that the option `error` spells
abbrev pub error_byte : List Row → Option ℕ
error_byte options = option_and_then hex_byte (first_of (codes "error") options)

-- the fault of the error among these options: it isn't two hexadecimal digits
abbrev pub error_fault : List Row → Kinds
error_fault options = if is_none (error_byte options) then ValueValidation ∷ [] else []

-- the flag `name` was given
abbrev pub is_yes : Option Text → Bool
is_yes None = false
is_yes (Some text) = bytes_eq text (codes "true")

abbrev pub is_given : List Row → Text → Bool
is_given options name = is_yes (one_of name options)

-- the form that the flags `json`, `journal` and `image` of a run ask for; two of them are in conflict
abbrev pub form_by : Bool → Bool → Bool → Option RunForm
form_by false false false = Some form.Text
form_by true false false = Some form.Json
form_by false true false = Some form.Journal
form_by false false true = Some form.Image
form_by _ _ _ = None

abbrev pub form_in : List Row → Option RunForm
form_in options = form_by (is_given options (codes "json")) (is_given options (codes "journal")) (is_given options (codes "image"))

-- the fault of the flags of a run: more than one is given
abbrev pub form_fault : List Row → Kinds
form_fault options = if is_none (form_in options) then ArgumentConflict ∷ [] else []

-- the fault of a subcommand's values that its parser leaves to the program
abbrev pub value_fault : Option (Text × List Row) → Kinds
value_fault None = []
value_fault (Some found) =
    if bytes_eq found.0 (codes "log") then error_fault found.1 else (if bytes_eq found.0 (codes "run") then form_fault found.1 else [])

-- the kinds of fault that the words may have, by the rules of the parser, and then by the error of `log` and the flags of `run`;
-- none where they are taken
abbrev pub usage_faults : PickWords → List Text → Kinds
usage_faults picks words = or_else (fault_of (ahci picks) words) (value_fault (subcommand_of (ahci picks) words))
