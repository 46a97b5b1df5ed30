-- The payload of a Data FIS (Serial ATA, "Data FIS").
use Rattle.std.specs.Prelude.{◌≡◌, ◌≤◌, ℕ, ◌%◌, List, length}

-- 1 to 2,048 dwords
abbrev pub IsPayload : List ℕ → Type 0
IsPayload xs = (4 ≤ length xs) × (length xs ≤ 8192) × (length xs % 4 ≡ 0)
