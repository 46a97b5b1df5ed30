-- The state of the reading of an input, and how it goes on.
use Rattle.std.specs.Prelude.{◌≡◌, ℕ, ◌+◌, ◌*◌, ◌-◌, List, ◌++◌, Option, length}
use Rattle.std.specs.Io.KnownBytes.{Consumes}
use Rattle.streams.specs.Reading.{Comes, MayEnd, Step, Taken, last_of}
use Rattle.streams.specs.Unread.{Begins, MayFail, found_of, unfinished, with_feeds}
use Rattle.streams.specs.declared.input.TheConstants.{INPUT_LIMIT}
use Rattle.streams.specs.declared.lines.Reading.{Reading}
use Rattle.streams.specs.declared.stopped.Stopped.{Stopped}
use Rattle.streams.specs.declared.stopped.Stopped.TheVariants as stopped

-- what the reader has left, where that is known, what came and was not taken, how many bytes came in all, how many lines were
-- taken, and the state of whoever takes them
pub record Stand (S : Type 0) : Type 0 where
  pub remaining : Option (List ℕ)
  pub unread : List ℕ
  pub came : ℕ
  pub line : ℕ
  pub state : S

-- the state of a reading
abbrev pub stand : {A : _} {S : Type 0} → Option (List ℕ) → S → Reading A → Stand S
stand remaining state r = record { remaining = remaining; unread = r.input.bytes; came = r.input.came; line = r.line; state = state }

-- what is left to do: each byte that can still come is read once and taken once
abbrev pub left_in : {A : _} → Reading A → ℕ
left_in r = 2 * (INPUT_LIMIT - r.input.came) + length r.input.bytes

-- lines were taken
pub record HasRead {S : Type 0} (Takes : Step S) (from to : Stand S) : Type 0 where
  pub lines : List (List ℕ)
  pub came : List ℕ
  pub taken : Taken Takes from.state (from.line + 1) lines to.state
  pub consumed : Consumes from.remaining to.remaining came
  pub read : from.unread ++ came ≡ with_feeds lines ++ to.unread
  pub counted : to.line ≡ from.line + length lines
  pub all_came : to.came ≡ from.came + length came

-- all lines were taken, and the last
pub record Ends {S : Type 0} (Takes : Step S) (from to : Stand S) : Type 0 where
  pub before : S
  pub reads : HasRead Takes from (record to { state = before })
  pub ended : MayEnd to.remaining to.unread
  pub taken : Takes before (to.line + 1) (last_of to.unread) to.state

-- a fault ends the reading after lines that were taken
abbrev pub Halts : {S F : Type 0} → Step S → (S → ℕ → Begins → F → S → Type 0) → Stand S → Stand S → Stopped F → Type 0
Halts Takes Refuses from to stopped.Read =
    (r : Option (List ℕ)) × HasRead Takes from (record to { remaining = r }) × (found_of to.unread ≡ unfinished) × MayFail to.came r to.remaining
Halts Takes Refuses from to (stopped.Taker fault) =
    (before : _) × HasRead Takes from (record to { state = before }) × ((found : Begins) × Comes to.remaining to.unread found × Refuses before (to.line + 1) found fault to.state)
Halts Takes Refuses from to stopped.OutOfMemory = ⊥
