-- What there is to say of the tags that are left, after those before them, is what there is to say of all.
use Rattle.std.proofs.Common.{◌≡◌, [], drop, take}
use Rattle.ahci_check.specs.Limits.{twice_among}
use Rattle.ahci_check.proofs.tags.tag_twice.Given as goal

abbrev pub invariant-loop-index : goal.invariant-loop-index
invariant-loop-index l = twice_among (take l.index l.fn.tags) l.left (drop l.index l.fn.tags) ≡ twice_among [] l.fn.words l.fn.tags
