-- What the texts say of the pages that a disk makes.
use Rattle.std.specs.Prelude.{◌≡◌, ℕ, ◌^◌, ◌<◌, ◌≤◌, slice_index}
use Rattle.ncq_core.specs.DiskState.{DiskError}
use Rattle.ncq_core.specs.Identify.{identify_page, identify_word}
use Rattle.ncq_core.specs.Log.{log_page}
use Rattle.ata_pages.specs.IdentifyText.{word_of}
use Rattle.ata_pages.specs.LogText.{lba_of, nq_of, tag_of, unl_of}

-- the value at each word is the table's
abbrev pub TellsWords : Type 0
TellsWords = (s d n : ℕ) → d ≤ 32 → n < 256 → word_of (identify_page s d) n ≡ identify_word s d n

-- the flags are 0, and tag, status, error and LBA are those of the error
pub record Tells (e : DiskError) : Type 0 where
  pub nq : nq_of (log_page e) ≡ 0
  pub unl : unl_of (log_page e) ≡ 0
  pub tag : tag_of (log_page e) ≡ e.tag
  pub status : slice_index (log_page e) 2 ≡ 0x41
  pub error : slice_index (log_page e) 3 ≡ e.error
  pub lba : lba_of (log_page e) ≡ e.lba

abbrev pub TellsError : Type 0
TellsError = (e : DiskError) → e.tag < 32 → e.lba < 2 ^ 48 → Tells e
