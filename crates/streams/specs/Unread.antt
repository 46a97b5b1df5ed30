-- What the reader of an input holds: the bytes that came and were not yet taken as lines.
use Rattle.std.specs.Prelude.{◌≡◌, ℕ, ◌+◌, ◌<◌, List, [], ◌∷◌, ◌++◌, Option, Some, None, true, length, take, position, nat_le, ◌==◌, if◌then◌else◌, ◌⊎◌}
use Rattle.streams.specs.declared.input.Found.{Found}
use Rattle.streams.specs.declared.input.Found.TheVariants.{Line, TooLong, Unfinished}
use Rattle.std.specs.Io.KnownBytes.{Consumes, Keeps}
use Rattle.streams.specs.Ends.{ReadSoFar}

-- bytes that came and were not yet taken, and how many came in all
pub record Unread : Type 0 where
  pub bytes : List ℕ
  pub came : ℕ

-- the place of the first line feed
abbrev pub line_end : List ℕ → Option ℕ
line_end bytes = position (λ b. b == 10) bytes

-- what unread bytes begin with, as plain bytes
pub data Begins : Type 0 where
  whole : List ℕ → Begins
  too_long : Begins
  unfinished : Begins

-- how many bytes a line has at most, without its line feed
abbrev pub line_limit : ℕ
line_limit = 4096

-- where the first line feed is known: a line before it, more bytes than a line may have, or neither
abbrev pub found_at : Option ℕ → List ℕ → Begins
found_at None bytes = if nat_le (length bytes) line_limit then unfinished else too_long
found_at (Some end) bytes = if nat_le end line_limit then whole (take end bytes) else too_long

abbrev pub found_of : List ℕ → Begins
found_of bytes = found_at (line_end bytes) bytes

-- what the code found, as plain bytes
abbrev pub shown : Found → Begins
shown (Line line) = whole line.now
shown TooLong = too_long
shown Unfinished = unfinished

-- some bytes came from the reader, after those that are unread
pub record Grows (old new : Unread) (remaining_old remaining_new : Option (List ℕ)) : Type 0 where
  pub came : List ℕ
  pub some : 0 < length came
  pub consumed : Consumes remaining_old remaining_new came
  pub bytes : new.bytes ≡ old.bytes ++ came
  pub count : new.came ≡ old.came + length came

-- where reading may fail, after so many bytes: the reader failed and gave none, or 67,108,864 bytes came and there are more
abbrev pub MayFail : ℕ → Option (List ℕ) → Option (List ℕ) → Type 0
MayFail came remaining_old remaining_new = Keeps remaining_old remaining_new ⊎ (came ≡ 67108864)

-- nothing more was read behind so many bytes, of which these are unread, or a read failed at the end of an input without another whole line
abbrev pub ReadsNoMore : ℕ → List ℕ → Option (List ℕ) → Option (List ℕ) → Type 0
ReadsNoMore came unread remaining_old remaining_new = (remaining_old ≡ remaining_new) ⊎ ((found_of unread ≡ unfinished) × MayFail came remaining_old remaining_new)

-- why reading failed, by what the reads returned: one of them failed, or a byte came after 67,108,864
abbrev pub FailsReading : ReadSoFar → Type 0
FailsReading reads = (reads.failed ≡ true) ⊎ (67108864 < reads.came)

-- lines with their line feeds, joined
abbrev pub with_feeds : List (List ℕ) → List ℕ
with_feeds [] = []
with_feeds (text ∷ more) = text ++ 10 ∷ with_feeds more
