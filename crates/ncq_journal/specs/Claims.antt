-- What is claimed of the answers of requests, and whether it holds.
use Rattle.std.specs.Prelude.{◌≡◌, ◌↔◌, ℕ, ◌<◌, Bool, false, List, length, Option, None, Some, IsTrue, IsSomeAnd, slice_index_or}
use Rattle.ncq_journal.specs.Answer.{Answer, answer}
use Rattle.ncq_journal.specs.Entry.{Entry}

-- something is claimed, and the answer is what is claimed
abbrev pub Holds : Option Answer → Option Answer → Type 0
Holds claim given = IsSomeAnd claim (λ c. given ≡ Some c)

-- for each request, by its number, whether the claim about it holds
pub record AreJudged (image : List ℕ) (past : List Entry) (claims : List (Option Answer)) (holding : List Bool) : Type 0 where
  pub count : length holding ≡ length past
  pub each : (n : ℕ) → n < length past → IsTrue (slice_index_or holding n false) ↔ Holds (slice_index_or claims n None) (answer image past n)
