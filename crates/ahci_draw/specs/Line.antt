-- The line of an entry in the listing: a letter for each of the 32 tags, one for how many tags the device has, the entry's sign, the
-- lane that it is in, and the entry in words. No byte of it but the line feed at its front is one that XML reads as more than itself.
use Rattle.std.specs.Prelude.{ℕ, if◌then◌else◌, Bool, List, [], ◌∷◌, ◌++◌, flat_map, slice_index_or}
use Rattle.std.specs.List.{range_with_len}
use Rattle.ncq_journal.specs.Entry.{Entry, Issue, Accept, Complete, Fail, Recover, Reissue, Collect, Unqueued, Zero}
use Rattle.ncq_journal.specs.Work.{Work, Read, Write}
use Rattle.ncq_journal.specs.declared.phase.Phase.{Phase}
use Rattle.ncq_journal.specs.declared.phase.Phase.TheVariants.{Free, Issued, Accepted, Rejected, Broken, Held, Done}
use Rattle.ncq_journal.specs.declared.plain.Plain.{Plain}
use Rattle.ncq_journal.specs.declared.plain.Plain.TheVariants.{Identify, Flush, ReadLog}
use Rattle.ahci_draw.specs.Tags.{in_device, unused}
use Rattle.ahci_draw.specs.Text.{letter}
use Rattle.ahci_draw.specs.Words.{title_text}
use Rattle.ahci_draw.specs.declared.tag_state.TagState.{TagState}

-- the state of a tag: i issued, a accepted, f failed, h held, d done, in capitals for a write, and a dot for a free one
abbrev pub cell : Phase → Bool → ℕ
cell Free writes = 46
cell Issued writes = if writes then 73 else 105
cell Accepted writes = if writes then 65 else 97
cell Rejected writes = if writes then 70 else 102
cell Broken writes = if writes then 70 else 102
cell Held writes = if writes then 72 else 104
cell Done writes = if writes then 68 else 100

abbrev pub cell_at : List TagState → ℕ → List ℕ
cell_at tags tag = cell (slice_index_or tags tag unused).phase (slice_index_or tags tag unused).writes ∷ []

unfoldable pub cells : List TagState → List ℕ
cells tags = flat_map (cell_at tags) (range_with_len 0 32)

-- the sign of an entry: R and W a read and a write that are issued, A accepted, C completed, X failed, V recovered, N issued again
-- (anew), E its answer collected (ended)
abbrev pub issue_sign : Work → ℕ
issue_sign (Read lba sectors) = 82
issue_sign (Write lba bytes) = 87

-- I for IDENTIFY DEVICE, F for FLUSH CACHE EXT, L for READ LOG EXT; and Z for sectors that become zeros
abbrev pub plain_sign : Plain → ℕ
plain_sign Identify = 73
plain_sign Flush = 70
plain_sign ReadLog = 76

abbrev pub sign_of : Entry → ℕ
sign_of (Issue tag work) = issue_sign work
sign_of (Accept tag) = 65
sign_of (Complete tag) = 67
sign_of (Fail tag error lba) = 88
sign_of (Recover tag) = 86
sign_of (Reissue tag) = 78
sign_of (Collect tag) = 69
sign_of (Unqueued command) = plain_sign command
sign_of (Zero lba sectors) = 90

-- the lane of its tag; a dot for a command that is not queued
abbrev pub lane_of : Entry → ℕ
lane_of (Issue tag work) = letter tag
lane_of (Accept tag) = letter tag
lane_of (Complete tag) = letter tag
lane_of (Fail tag error lba) = letter tag
lane_of (Recover tag) = letter tag
lane_of (Reissue tag) = letter tag
lane_of (Collect tag) = letter tag
lane_of (Unqueued command) = 46
lane_of (Zero lba sectors) = 46

-- the line of an entry, after which the tags have these states
unfoldable pub entry_line : ℕ → List TagState → Entry → List ℕ
entry_line number tags entry =
    (10 ∷ []) ++ (cells tags ++ ((letter (in_device tags) ∷ sign_of entry ∷ lane_of entry ∷ []) ++ title_text number entry))
