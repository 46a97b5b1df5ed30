-- The request that a tag was last issued for. A request is known by the place of its Issue entry, which is its number where
-- a journal's first number is 0.
use Rattle.std.specs.Prelude.{ℕ, ◌==◌, if◌then◌else◌, List, [], ◌∷◌, length, Option, None, Some}
use Rattle.ncq_journal.specs.Entry.{Entry, Issue}
use Rattle.ncq_journal.specs.Work.{Work}

pub record Request : Type 0 where
  pub number : ℕ
  pub work : Work

-- the last Issue of the tag, where there is one
abbrev pub request : List Entry → ℕ → Option Request
request [] tag = None
request (Issue t work ∷ past) tag = if t == tag then Some (record { number = length past; work = work }) else request past tag
request (entry ∷ past) tag = request past tag
