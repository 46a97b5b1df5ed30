-- What a journal is once there is room in it.
use Rattle.std.specs.Prelude.{◌≡◌, ℕ, ◌+◌, ◌≤◌, length, max}
use Rattle.ncq_journal.specs.History.{History}

-- so many more entries can be pushed with no more memory, which was asked for only where less was held than they need
pub record MakesRoom (count : ℕ) (old new : History) : Type 0 where
  pub first_same : new.first ≡ old.first
  pub past_same : new.past ≡ old.past
  pub room_is : new.room ≡ max old.room count
  pub held_enough : length new.past + new.room ≤ new.held
  pub held_same : length old.past + count ≤ old.held → new.held ≡ old.held
  pub held_more : old.held ≤ new.held
