-- How a PRDT is read: some entries at a time, from 80h of the command table on (AHCI 1.3.1, section 4.2.3).
use Rattle.std.specs.Prelude.{ℕ, ◌+◌, ◌*◌, ◌^◌, ◌%◌, min, List, [], take, drop, map}
use Rattle.std.specs.List.{range_with_len}
use Rattle.hba_command.specs.declared.entry.PrdEntry.{PrdEntry}
use Rattle.hba_command.specs.PrdEntry.{entry_at}

pub record TableView : Type 0 where
  -- where the next entry is, and how many are still to be read
  pub address : ℕ
  pub left : ℕ
  -- the entries before it
  pub list : List PrdEntry
  -- how many bytes the command moves
  pub needed : ℕ

-- how many entries are read at a time (profile)
abbrev pub most_entries : ℕ
most_entries = 32

abbrev pub next_entries : TableView → ℕ
next_entries t = min t.left most_entries

-- the entries that some bytes spell
abbrev pub entries_in : ℕ → List ℕ → List PrdEntry
entries_in n bytes = map (λ k. entry_at (take 16 (drop (16 * k) bytes))) (range_with_len 0 n)

-- addresses have 64 bits
abbrev pub wrapped : ℕ → ℕ
wrapped n = n % 2 ^ 64

-- the table before its first entry was read, of a command that moves so many bytes
abbrev pub unread : (table entries needed : ℕ) → TableView
unread table entries needed = record { address = wrapped (table + 0x80); left = entries; list = []; needed = needed }
