-- The tags so far have their phases.
use Rattle.std.proofs.Common.{◌≡◌, ◌<◌, ℕ, length}
use Rattle.std.specs.Prelude.{slice_index_or}
use Rattle.ahci_draw.specs.Tags.{tag_in, unused}
use Rattle.ahci_draw.proofs.tags.tags_in.Given as goal

abbrev pub invariant-loop-tag : goal.invariant-loop-tag
invariant-loop-tag g l = record {
  count : length l.tags ≡ 32;
  stand : (tag : ℕ) → tag < l.tag → slice_index_or l.tags tag unused ≡ tag_in l.port tag;
}
