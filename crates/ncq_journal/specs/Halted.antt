-- When a port has stopped for an error (AHCI 1.3.1, section 6.2.2).
use Rattle.std.specs.Prelude.{ℕ, Bool, List}
use Rattle.std.specs.List.{list_any, range_with_len}
use Rattle.ncq_journal.specs.Entry.{Entry}
use Rattle.ncq_journal.specs.Phase.{phase, is_failed, is_busy}

-- the 32 tags of a port
unfoldable pub tags : List ℕ
tags = range_with_len 0 32

-- some tag's command has failed, and the port has not recovered
abbrev pub halted : List Entry → Bool
halted past = list_any (λ tag. is_failed (phase past tag)) tags

-- some tag waits for the device or is outstanding in it
abbrev pub busy : List Entry → Bool
busy past = list_any (λ tag. is_busy (phase past tag)) tags
