-- How the lines of an input are taken, one after another.
use Rattle.std.specs.Prelude.{◌≡◌, ℕ, ◌+◌, List, [], ◌∷◌, ◌++◌, Option, length, ◌⊎◌}
use Rattle.std.specs.Io.KnownBytes.{Consumes, IsAtEnd}
use Rattle.streams.specs.Ends.{ReadSoFar}
use Rattle.streams.specs.Unread.{Begins, FailsReading, MayFail, found_of, too_long, unfinished, whole, with_feeds}
use Rattle.streams.specs.declared.stopped.Stopped.{Stopped}
use Rattle.streams.specs.declared.stopped.Stopped.TheVariants as stopped

-- what the next line's number is, and what comes: from one state to another
abbrev pub Step : Type 0 → Type 1
Step S = S → ℕ → Begins → S → Type 0

-- lines, none of which holds a line feed or is too long, were taken one after another, the first of which has this number;
-- more input may have come before each of them
pub data Taken {S : Type 0} (Takes : Step S) : S → ℕ → List (List ℕ) → S → Type 0 where
  nothing : (s : S) (number : ℕ) → Taken Takes s number [] s
  one_more : (s : S) (number : ℕ) (first : List ℕ) (t : S) (more : List (List ℕ)) (u : S) → found_of (first ++ 10 ∷ []) ≡ whole first
      → Takes s number (whole first) t → Taken Takes t (number + 1) more u → Taken Takes s number (first ∷ more) u
  more_input : (s : S) (number : ℕ) (t : S) (more : List (List ℕ)) (u : S) → Takes s number unfinished t → Taken Takes t number more u
      → Taken Takes s number more u

-- lines at the front of an input were taken, and what holds then: of the lines, of what the reader has left, of the bytes
-- after the lines, and of the state
pub record TakenFirst {S : Type 0} (Takes : Step S) (remaining_old : Option (List ℕ)) (from : S)
    (P : List (List ℕ) → Option (List ℕ) → List ℕ → S → Type 0) : Type 0 where
  pub lines : List (List ℕ)
  pub rest : List ℕ
  pub remaining : Option (List ℕ)
  pub to : S
  pub taken : Taken Takes from 1 lines to
  pub consumed : Consumes remaining_old remaining (with_feeds lines ++ rest)
  pub holds : P lines remaining rest to

-- the next line among unread bytes: one with its line feed, or at the end of the input all that is left
abbrev pub IsNext : Option (List ℕ) → List ℕ → List ℕ → Type 0
IsNext remaining unread line = (found_of unread ≡ whole line) ⊎ (IsAtEnd remaining × (found_of unread ≡ unfinished) × (line ≡ unread))

-- what comes next of unread bytes: a line, one that is too long, or more input
abbrev pub Comes : Option (List ℕ) → List ℕ → Begins → Type 0
Comes remaining unread (whole line) = IsNext remaining unread line
Comes remaining unread found = found_of unread ≡ found

-- what ends an input with these unread bytes: a line that is too long, or else all of them
abbrev pub last_by : Begins → List ℕ → Begins
last_by too_long unread = too_long
last_by found unread = whole unread

abbrev pub last_of : List ℕ → Begins
last_of unread = last_by (found_of unread) unread

-- an input may end with these unread bytes: a line that is too long, or a last line, which may lack its line feed
abbrev pub MayEnd : Option (List ℕ) → List ℕ → Type 0
MayEnd remaining unread = (found_of unread ≡ too_long) ⊎ (IsAtEnd remaining × (found_of unread ≡ unfinished))

-- all lines were taken, and the last
abbrev pub ReadsAll : {S : Type 0} → Step S → Option (List ℕ) → Option (List ℕ) → S → S → Type 0
ReadsAll Takes r s from to =
    TakenFirst Takes r from (λ lines remaining rest at. (remaining ≡ s) × MayEnd s rest × Takes at (length lines + 1) (last_of rest) to)

-- why they weren't: no line was looked at for want of memory; a read failed, and no whole line was left; or what came was refused
abbrev pub StopsReading : {S F : Type 0} → Step S → (S → ℕ → Begins → F → S → Type 0) → Option (List ℕ) → Option (List ℕ) → S → S → Stopped F → Type 0
StopsReading Takes Refuses r s from to stopped.OutOfMemory = (s ≡ r) × (to ≡ from)
StopsReading Takes Refuses r s from to stopped.Read =
    TakenFirst Takes r from (λ lines remaining rest at. (found_of rest ≡ unfinished) × MayFail (length (with_feeds lines ++ rest)) remaining s × (to ≡ at))
StopsReading Takes Refuses r s from to (stopped.Taker fault) =
    TakenFirst Takes r from (λ lines remaining rest at. (remaining ≡ s) × ((found : Begins) × Comes s rest found × Refuses at (length lines + 1) found fault to))

-- what the reads returned where the lines were not all taken: one failed, or a byte came after the limit; or none failed by then
abbrev pub ReadsAs : {F : Type 0} → ReadSoFar → ReadSoFar → Stopped F → Type 0
ReadsAs old new stopped.Read = FailsReading new
ReadsAs old new other = new.failed ≡ old.failed

-- the fault of whoever had the lines taken: the taker's own, or these where a read failed and where memory was wanting
abbrev pub fault_or : {F : Type 0} → F → F → Stopped F → F
fault_or read out_of_memory stopped.Read = read
fault_or read out_of_memory (stopped.Taker fault) = fault
fault_or read out_of_memory stopped.OutOfMemory = out_of_memory
