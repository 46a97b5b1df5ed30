-- The bytes of one sector after a journal: zeros, or those of a write that was completed over it, whichever came last, else the image's.
use Rattle.std.specs.Prelude.{ℕ, ◌&&◌, if◌then◌else◌, List, [], ◌∷◌, Option, None, Some}
use Rattle.ncq_journal.specs.Entry.{Entry, Complete, Zero}
use Rattle.ncq_journal.specs.Image.{sector_at, covers, written_at, is_write, zeroed}
use Rattle.ncq_journal.specs.Request.{Request, request}

-- a sector once this request is completed, where its bytes were these before
abbrev pub completed : Option Request → ℕ → List ℕ → List ℕ
completed None s before = before
completed (Some r) s before = if is_write r.work && covers r.work s then written_at r.work s else before

-- sector s after the journal, over a starting image
abbrev pub sector : List ℕ → List Entry → ℕ → List ℕ
sector image [] s = sector_at image s
sector image (Complete t ∷ past) s = completed (request past t) s (sector image past s)
sector image (Zero lba sectors ∷ past) s = zeroed lba sectors s (sector image past s)
sector image (entry ∷ past) s = sector image past s
