-- The first pieces are there.
use Rattle.std.proofs.Common.{◌≡◌, map}
use Rattle.std.specs.List.{range_with_len}
use Rattle.ahci_table.specs.Defaults.{piece_from}
use Rattle.ahci_table.proofs.defaults.pieces_from.Given as goal

abbrev pub invariant-loop-index : goal.invariant-loop-index
invariant-loop-index l = l.pieces.items ≡ map (piece_from l.first l.sectors l.apiece) (range_with_len 0 l.index)
