-- What the pieces that are left make of the bytes is what all make of the first ones.
use Rattle.std.proofs.Common.{◌≡◌, length, drop}
use Rattle.ahci_table.proofs.RunLemmas.{scattered}
use Rattle.ahci_table.proofs.runs.scatter.Given as goal

abbrev pub invariant-loop-piece : goal.invariant-loop-piece
invariant-loop-piece l =
    (length l.bytes ≡ length l.initial.bytes)
    × (scattered (drop l.piece-index l.pieces) l.skip l.rest l.bytes ≡ scattered l.pieces l.offset l.from l.initial.bytes)
