-- The tags so far have moved.
use Rattle.std.proofs.Common.{◌≡◌, ◌<◌, ℕ, length}
use Rattle.std.specs.Prelude.{slice_index_or}
use Rattle.ncq_journal.specs.Entry.{entry_of}
use Rattle.ahci_draw.specs.Tags.{moved_at, unused}
use Rattle.ahci_draw.proofs.tags.tags_after.Given as goal

abbrev pub invariant-loop-tag : goal.invariant-loop-tag
invariant-loop-tag g l = record {
  count : length l.after ≡ 32;
  stand : (tag : ℕ) → tag < l.tag → slice_index_or l.after tag unused ≡ moved_at l.before (entry_of l.event) tag;
}
