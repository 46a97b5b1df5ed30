-- the tags so far
use Rattle.std.proofs.Common.{◌≡◌, None, get_or}
use Rattle.std.specs.Option.{is_some}
use Rattle.word_bits.specs.Places.{bits}
use Rattle.ncq_journal.proofs.SetLemmas.{among}
use Rattle.ncq_core.proofs.disk.Disk.tags.Given as goal

abbrev pub invariant-loop-tag : goal.invariant-loop-tag
invariant-loop-tag g l = bits l.word ≡ among (λ t. is_some (get_or l.self-inside.commands t None)) l.tag
