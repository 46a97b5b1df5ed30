-- How a write's data are read: its PRDT, the runs that are still to be read, and the bytes that the earlier ones had.
use Rattle.std.specs.Prelude.{ℕ, List}
use Rattle.hba_command.specs.declared.entry.PrdEntry.{PrdEntry}
use Rattle.hba_memory.specs.Runs.{Run}

pub record Gathering : Type 0 where
  pub list : List PrdEntry
  pub runs : List Run
  pub bytes : List ℕ
