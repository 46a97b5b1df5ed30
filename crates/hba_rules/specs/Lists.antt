-- Which rules an entry of a PRDT breaks, and which the whole list (AHCI 1.3.1, sections 3.3.5 and 4.2.3).
use Rattle.std.specs.Prelude.{ℕ, ◌/◌, ◌%◌, Bool, false, not, ◌&&◌, ◌||◌, nat_eq, nat_lt, List}
use Rattle.sata_fis.specs.Places.{byte, number}
use Rattle.hba_command.specs.declared.task.Task.{Task}
use Rattle.hba_memory.specs.Reading.{moved_by}
use Rattle.hba_rules.specs.declared.rule.Rule.{Rule}
use Rattle.hba_rules.specs.declared.rule.Rule.TheVariants as rule

-- dword 2 of an entry, and bits 30:22 of its dword 3, which are 7 and 6 of byte 14, and 6:0 of byte 15
abbrev pub has_reserved_entry : List ℕ → Bool
has_reserved_entry entry = not (nat_eq (number 8 4 entry) 0) || not (nat_eq (byte 14 entry / 64) 0) || not (nat_eq (byte 15 entry % 128) 0)

-- bit 0 of DBA is 0, and bit 0 of DBC is 1
abbrev pub entry_breaks : Rule → List ℕ → Bool
entry_breaks rule.OddAddress entry = nat_eq (byte 0 entry % 2) 1
entry_breaks rule.EvenCount entry = nat_eq (byte 12 entry % 2) 0
entry_breaks rule.ReservedEntry entry = has_reserved_entry entry
entry_breaks other entry = false

-- the bytes of all entries together, of a command that moves data
abbrev pub length_breaks : Rule → Task → ℕ → Bool
length_breaks rule.ListTooShort t total = nat_lt total (moved_by t)
length_breaks rule.ListTooLong t total = not (nat_eq (moved_by t) 0) && nat_lt (moved_by t) total
length_breaks other t total = false
