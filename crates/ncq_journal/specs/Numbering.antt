-- The numbers of a journal's entries, which go on from its first. All other definitions speak of places, counted from 0 at
-- the oldest entry: an entry's number is its place where the first number is 0.
use Rattle.std.specs.Prelude.{ℕ, ◌+◌, ◌-◌, if◌then◌else◌, nat_lt, List, Option, None, Some}
use Rattle.std.specs.Option.{option_and_then}
use Rattle.ncq_journal.specs.Answer.{Answer}
use Rattle.ncq_journal.specs.Entry.{Entry}
use Rattle.ncq_journal.specs.History.{entry_at}
use Rattle.ncq_journal.specs.Request.{Request}

-- the number of the entry at a place
abbrev pub number_of : ℕ → ℕ → ℕ
number_of first place = first + place

-- the place of a number; there is none below the first
abbrev pub place_of : ℕ → ℕ → Option ℕ
place_of first number = if nat_lt number first then None else Some (number - first)

-- the entry of a number, where there is one
abbrev pub entry_numbered : ℕ → List Entry → ℕ → Option Entry
entry_numbered first past number = option_and_then (entry_at past) (place_of first number)

-- a request that is known by a place, by its number
abbrev pub request_numbered : ℕ → Request → Request
request_numbered first r = record { number = number_of first r.number; work = r.work }

-- an answer whose entry is a place, with that entry's number
abbrev pub answer_numbered : ℕ → Answer → Answer
answer_numbered first a = record { entry = number_of first a.entry; outcome = a.outcome; bytes = a.bytes }
