-- How the name of a status is answered.
use Rattle.std.specs.Prelude.{◌≡◌, ◌≢◌, ℕ, List, [], ◌∷◌, ◌++◌, length, nat_le, Option, Some, None, if◌then◌else◌}
use Rattle.ahci_ffi.specs.Flat.{begun_with}
use Rattle.ahci_ffi.specs.Status.{code_of, name_of}
use Rattle.ahci_ffi.specs.Told.{Told}
use Rattle.ahci_ffi.specs.declared.status.Status.{Status}
use Rattle.ahci_ffi.specs.declared.status.Status.TheVariants as status

-- a buffer has room for a name and a byte after it
abbrev pub text_refusal : (name : List ℕ) → (room : ℕ) → Option Status
text_refusal name room = if nat_le room (length name) then Some status.BufferTooSmall else None

-- a name is at the beginning of a buffer, with a 0 after it, and its length is reported
abbrev pub AnswersName : List ℕ → Status → (old new : List ℕ) → (before after : ℕ) → Type 0
AnswersName name answer old new before after =
    Told answer (text_refusal name (length old)) ((new ≡ begun_with (name ++ 0 ∷ []) old) × (after ≡ length name)) ((new ≡ old) × (after ≡ before))

-- no status has the number
abbrev pub IsNoStatus : ℕ → Type 0
IsNoStatus number = (s : Status) → code_of s ≢ number

-- the name of the status of a number is reported, or that there is none
pub data AnswersText (number : ℕ) (answer : Status) (old new : List ℕ) (before after : ℕ) : Type 0 where
  is_named : (s : Status) → code_of s ≡ number → AnswersName (name_of s) answer old new before after → AnswersText number answer old new before after
  is_none : IsNoStatus number → answer ≡ status.BadKind → new ≡ old → after ≡ before → AnswersText number answer old new before after
