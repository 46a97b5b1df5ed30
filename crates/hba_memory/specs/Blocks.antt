-- How a command's data move one block after the other, by PIO (ACS-3, "PIO data-in command protocol" and "PIO data-out command protocol"): a block has so
-- many sectors. A write's list is passed alone: its data are with the device.
use Rattle.std.specs.Prelude.{ℕ, ◌+◌, ◌-◌, ◌*◌, false, List, [], ◌∷◌, take, drop, nat_lt, if◌then◌else◌}
use Rattle.hba_command.specs.declared.entry.PrdEntry.{PrdEntry}
use Rattle.hba_memory.specs.Runs.{Put, placed}
use Rattle.hba_memory.specs.Table.{wrapped}

-- the bytes that are left, and the runs that they go to, or come from
pub record BlocksView : Type 0 where
  pub list : List PrdEntry
  pub bytes : List ℕ

-- an entry behind its first bytes, with its I
abbrev pub shortened : PrdEntry → ℕ → PrdEntry
shortened e n = record { address = wrapped (e.address + n); length = e.length - n; interrupt = e.interrupt }

-- a list behind so many bytes; a run that has more of them is split
abbrev pub list_after : List PrdEntry → ℕ → List PrdEntry
list_after [] n = []
list_after (e ∷ rest) n = if nat_lt n e.length then shortened e n ∷ rest else list_after rest (n - e.length)

-- the next block, of so many sectors, and where it goes: an entry names two bytes at least, so 256 of them have room for a sector
abbrev pub block_bytes : BlocksView → (sectors : ℕ) → List ℕ
block_bytes b n = take (512 * n) b.bytes

abbrev pub block_list : BlocksView → (sectors : ℕ) → List PrdEntry
block_list b n = take (256 * n) b.list

abbrev pub block_puts : BlocksView → (sectors : ℕ) → List Put
block_puts b n = placed (block_list b n) (block_bytes b n)

-- what is left behind it
abbrev pub after_block : BlocksView → (sectors : ℕ) → BlocksView
after_block b n = record { list = list_after b.list (512 * n); bytes = drop (512 * n) b.bytes }

-- an entry of no bytes, for places after the last one
abbrev pub no_entry : PrdEntry
no_entry = record { address = 0; length = 0; interrupt = false }
