-- What holds of the places of a command's data.
use Rattle.std.specs.Prelude.{◌≡◌, ◌≤◌, ◌↔◌, ℕ, ◌+◌, ◌*◌, ◌||◌, true, nat_le, List, length, map}
use Rattle.std.specs.List.{concat, list_all}
use Rattle.hba_command.specs.declared.entry.PrdEntry.{PrdEntry}
use Rattle.hba_memory.specs.Blocks.{BlocksView, block_list, list_after}
use Rattle.hba_memory.specs.Processing.{has_processed, Processes}
use Rattle.hba_memory.specs.Runs.{placed, run_of, runs, total}

-- data is written to the runs that it would be read from
abbrev pub SamePlaces : Type 0
SamePlaces = (list : List PrdEntry) (bytes : List ℕ) → map run_of (placed list bytes) ≡ runs list (length bytes)

-- all bytes of the data are written, in their order, if the entries name as many
abbrev pub WholeData : Type 0
WholeData = (list : List PrdEntry) (bytes : List ℕ) → length bytes ≤ total list → concat (map (λ p. p.bytes) (placed list bytes)) ≡ bytes

-- an entry with I whose bytes have all moved can be named, and there is no other way
abbrev pub ByAnEntry : Type 0
ByAnEntry = (list : List PrdEntry) (moved : ℕ) → has_processed list moved ≡ true ↔ Processes list moved

-- data that move in two parts have processed what they process in one: an entry that both parts have bytes of counts with the second one
abbrev pub InTwoParts : Type 0
InTwoParts = (list : List PrdEntry) (n m : ℕ) → has_processed list (n + m) ≡ (has_processed list n || has_processed (list_after list n) m)

-- the entries for a block are enough to say which of them it processes: each has two bytes at least
abbrev pub EnoughEntries : Type 0
EnoughEntries = (b : BlocksView) (sectors : ℕ) → list_all (λ e. nat_le 2 e.length) b.list ≡ true
    → has_processed (block_list b sectors) (512 * sectors) ≡ has_processed b.list (512 * sectors)
