use Rattle.std.proofs.Common.{◌≡◌, ◌-◌, ◌<◌, ◌≤◌, length, All}
use Rattle.ahci_script.specs.Lines.{more_tags}
use Rattle.ahci_script.proofs.tags.tags.Given as goal

-- the tags so far, with those of the words that are left, are those of all words
abbrev pub invariant-loop-text : goal.invariant-loop-text
invariant-loop-text l =
    (0 < length l.tags.items) × (length l.tags.items ≤ 32) × All (λ t. t < 32) l.tags.items
    × (more_tags (32 - length l.tags.items) l.tags.items l.left ≡ more_tags (32 - length l.initial.tags.items) l.initial.tags.items l.initial.left)

abbrev pub decreases-loop-text : goal.decreases-loop-text
decreases-loop-text l = 32 - length l.tags.items
