-- What a driver's trim hands out, of a port of which nothing else is known.
use Rattle.std.specs.Prelude.{ℕ, ◌≤◌, List}
use Rattle.ncq_journal.specs.Entry.{Entry}
use Rattle.ncq_journal.specs.Lawful.{IsLawful}

-- a journal that a port has kept, with so many sectors and slots: each entry was allowed
pub record IsKept (past : List Entry) : Type 0 where
  pub sectors : ℕ
  pub depth : ℕ
  pub few : depth ≤ 32
  pub lawful : IsLawful sectors depth past
