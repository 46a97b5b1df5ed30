-- the tags so far are free
use Rattle.std.proofs.Common.{◌≡◌, ℕ, ◌<◌}
use Rattle.ncq_journal.specs.declared.phase.Phase.TheVariants.{Free}
use Rattle.ncq_journal.specs.Phase.{phase}
use Rattle.ahci_driver.proofs.left.is_all_free.Given as goal

abbrev pub invariant-loop-tag : goal.invariant-loop-tag
invariant-loop-tag g l = (tag : ℕ) → tag < l.tag → phase l.port.past tag ≡ Free
