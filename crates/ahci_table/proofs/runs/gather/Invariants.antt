-- What is copied, and what the pieces that are left have for the rest, is what is asked for.
use Rattle.ahci_table.proofs.GatherLemmas.{Gathers}
use Rattle.ahci_table.proofs.runs.gather.Given as goal

abbrev pub invariant-loop-piece : goal.invariant-loop-piece
invariant-loop-piece l = Gathers l.pieces l.bytes l.offset l.piece-index l.skip l.done l.out
