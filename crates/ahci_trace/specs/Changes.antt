-- The registers whose words a command has changed.
use Rattle.std.specs.Prelude.{ℕ, Bool, false, nat_eq, if◌then◌else◌, List, filter_map, zip, Option, None, Some}
use Rattle.ahci_regs.specs.PortState.{PortState}
use Rattle.ahci_regs.specs.Reading.{word_at}
use Rattle.ahci_regs.specs.RegisterTable.{registers}
use Rattle.ahci_regs.specs.declared.register.Register.{Register}
use Rattle.ahci_trace.specs.declared.change.Change.{Change}

-- there was a word, and it is this one
abbrev pub is_word : Option ℕ → ℕ → Bool
is_word None word = false
is_word (Some old) word = nat_eq old word

-- the change of a register, where its word now isn't the one that was there before
abbrev pub change_of : PortState → Register → Option ℕ → Option Change
change_of now register before =
    if is_word before (word_at now register) then None else Some (record { register = register; before = before; word = word_at now register })

-- those of some registers whose words now aren't the ones that were there before
abbrev pub changes_among : List Register → List (Option ℕ) → PortState → List Change
changes_among some before now = filter_map (λ p. change_of now p.0 p.1) (zip some before)

-- those of all registers, in the order of their offsets
abbrev pub changes : List (Option ℕ) → PortState → List Change
changes before now = changes_among registers before now
