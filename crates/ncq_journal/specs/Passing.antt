-- What one pass over a journal knows after some of its entries.
use Rattle.std.specs.Prelude.{◌≡◌, ℕ, ◌*◌, List, [], length, take, drop}
use Rattle.ncq_journal.specs.declared.outcome.Outcome.TheVariants as outcome
use Rattle.ncq_journal.specs.Answer.{Answer}
use Rattle.ncq_journal.specs.Image.{IsWrittenOver}
use Rattle.ncq_journal.specs.Work.{Work, Read, Write}

-- the answer of a command that is completed at an entry, over the image as it is then
abbrev pub completed_over : List ℕ → ℕ → Work → Answer
completed_over now entry (Read lba sectors) = record { entry = entry; outcome = outcome.Read; bytes = take (512 * sectors) (drop (512 * lba) now) }
completed_over now entry (Write lba bytes) = record { entry = entry; outcome = outcome.Wrote; bytes = [] }

-- the image after it
abbrev pub IsImageAfter : Work → List ℕ → List ℕ → Type 0
IsImageAfter (Read lba sectors) old new = new ≡ old
IsImageAfter (Write lba bytes) old new = (length new ≡ length old) × IsWrittenOver lba bytes old new
