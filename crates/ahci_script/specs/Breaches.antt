-- Where a line breaks a rule of the language first, from the left.
use Rattle.std.specs.Prelude.{ℕ, ◌==◌, Bool, false, ◌&&◌, ◌||◌, List, ◌∷◌, Option, Some, None, Result, Ok, Err, drop, length, nat_le, nat_lt, position, slice_index, if◌then◌else◌}
use Rattle.ahci_script.specs.declared.breach.Breach.{Breach}
use Rattle.ahci_script.specs.declared.fault.Fault.{Fault}
use Rattle.ahci_script.specs.declared.fault.Fault.TheVariants.{ByteOrderMark, CarriageReturn, ControlByte, HighByte, Tab}

-- a step that may fail: what follows goes on from its value
infixl 10 ◌>>=◌
abbrev pub ◌>>=◌ : {T U E : Type 0} → Result T E → (T → Result U E) → Result U E
(Ok x) >>= f = f x
(Err e) >>= f = Err e

-- a rule is broken where this end of a line begins
abbrev pub breach_at : List ℕ → Fault → Breach
breach_at end fault = record { left = length end; fault = fault }

-- the place of the first byte over 127
abbrev pub high_byte : List ℕ → Option ℕ
high_byte text = position (λ b. nat_le 128 b) text

-- the place of the first byte that no command has: a control byte, or one over 127
abbrev pub is_odd : ℕ → Bool
is_odd b = nat_lt b 32 || nat_le 127 b

abbrev pub odd_byte : List ℕ → Option ℕ
odd_byte text = position is_odd text

-- what it is called
abbrev pub odd_fault : ℕ → Fault
odd_fault b = if b == 9 then Tab else if b == 13 then CarriageReturn else if nat_le 128 b then HighByte else ControlByte b

-- the line begins with a byte order mark in UTF-8
abbrev pub begins_with_mark : List ℕ → Bool
begins_with_mark (a ∷ b ∷ c ∷ rest) = a == 0xef && b == 0xbb && c == 0xbf
begins_with_mark _ = false

-- a byte that no command has is reported before all else
abbrev pub seen_at : Option ℕ → List ℕ → Breach → Breach
seen_at None line found = found
seen_at (Some at) line found = breach_at (drop at line) (odd_fault (slice_index line at))

abbrev pub seen : List ℕ → Breach → Breach
seen line found = if begins_with_mark line then breach_at line ByteOrderMark else seen_at (odd_byte line) line found

abbrev pub seen_in : {T : Type 0} → List ℕ → Result T Breach → Result T Breach
seen_in line (Ok x) = Ok x
seen_in line (Err found) = Err (seen line found)

-- a comment may hold any byte below 128
abbrev pub comment_at : Option ℕ → List ℕ → Result (Unit {0}) Breach
comment_at None line = Ok tt
comment_at (Some at) line = Err (breach_at (drop at line) HighByte)

abbrev pub comment_of : List ℕ → Result (Unit {0}) Breach
comment_of line = comment_at (high_byte line) line
