-- A journal as a list of entries, the newest first: each part of it from the beginning on is a tail.
use Rattle.std.specs.Prelude.{ℕ, ◌-◌, List, map, reverse, Option, slice_get, length, drop}
use Rattle.ncq_journal.specs.declared.event.Event.{Event}
use Rattle.ncq_journal.specs.Entry.{Entry, entry_of}

-- the number of the oldest entry, the entries, how many more may be added with no more memory, and how many entries the
-- memory that is held is enough for
pub record History : Type 0 where
  pub first : ℕ
  pub past : List Entry
  pub room : ℕ
  pub held : ℕ

-- the entries of the code's events, which have the oldest first
abbrev pub history_of : {A : _} → List (Event A) → List Entry
history_of events = reverse (map entry_of events)

-- the entry at place k, counted from 0 at the oldest, where there is one
abbrev pub entry_at : List Entry → ℕ → Option Entry
entry_at past k = slice_get (reverse past) k

-- the first k entries
abbrev pub first_of : List Entry → ℕ → List Entry
first_of past k = drop (length past - k) past
