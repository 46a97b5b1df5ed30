-- The excess of the tags that are left is that of all.
use Rattle.std.proofs.Common.{◌≡◌, drop}
use Rattle.ahci_check.specs.Limits.{far_tag}
use Rattle.ahci_check.proofs.tags.far_tag.Given as goal

abbrev pub invariant-loop-tag : goal.invariant-loop-tag
invariant-loop-tag l = far_tag l.fn.depth l.left (drop l.tag-index l.fn.tags) ≡ far_tag l.fn.depth l.fn.words l.fn.tags
