-- How the reads of an input and the writes to an output went.
use Rattle.std.specs.Prelude.{ℕ, ◌+◌, ◌-◌, ◌^◌, Bool, true, false, min}

-- whether a read failed, and how many bytes came; their count stops at 2^64 - 1
pub record ReadSoFar : Type 0 where
  pub failed : Bool
  pub came : ℕ

-- before the first read
abbrev pub unread : ReadSoFar
unread = record { failed = false; came = 0 }

-- a read gave so many bytes
abbrev pub with_bytes : ReadSoFar → ℕ → ReadSoFar
with_bytes r count = record { failed = r.failed; came = min (r.came + count) (2 ^ 64 - 1) }

-- a read failed
abbrev pub with_failed_read : ReadSoFar → ReadSoFar
with_failed_read r = record { failed = true; came = r.came }

-- whether a write or a flush failed, or a write took no byte of some; and whether all that was written was flushed then
pub record WrittenSoFar : Type 0 where
  pub failed : Bool
  pub flushed : Bool

-- before the first write: not even nothing was flushed
abbrev pub unwritten : WrittenSoFar
unwritten = record { failed = false; flushed = false }

-- a write took some bytes
abbrev pub with_write : WrittenSoFar → WrittenSoFar
with_write w = record { failed = w.failed; flushed = false }

-- a flush did what it should
abbrev pub with_flush : WrittenSoFar → WrittenSoFar
with_flush w = record { failed = w.failed; flushed = true }

-- a write or a flush failed
abbrev pub with_failed_write : WrittenSoFar → WrittenSoFar
with_failed_write w = record { failed = true; flushed = false }
