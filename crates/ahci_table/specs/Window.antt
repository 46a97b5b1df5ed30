-- One tag's window: the command header that is in the command list (AHCI 1.3.1, section 4.2.2) and the bytes of
-- memory from a fixed base on, which begin with the command table (section 4.2.3) and hold the data after it.
use Rattle.std.specs.Prelude.{ℕ, ◌+◌, ◌*◌, List}

-- the tag, the 32 bytes of the header, and the bytes from the base on
pub record WindowState : Type 0 where
  pub tag : ℕ
  pub header : List ℕ
  pub bytes : List ℕ

-- the physical address at which the window of a tag begins (profile)
abbrev pub base : ℕ → ℕ
base tag = 0x10000000 + tag * 0x04000000

-- the most bytes of a window (profile): one more would be the next tag's
abbrev pub most_bytes : ℕ
most_bytes = 0x04000000
