-- What comes before the PRDT is there, and the entries of the first pieces.
use Rattle.std.proofs.Common.{◌≡◌, ◌++◌, take, replicate}
use Rattle.std.specs.List.{flat_map}
use Rattle.sata_fis.specs.Command.{h2d_for}
use Rattle.sata_fis.specs.Encoding.{h2d_bytes}
use Rattle.ncq_journal.specs.Work.{work_of}
use Rattle.ahci_table.specs.Build.{entry_for, queued_for}
use Rattle.ahci_table.specs.Window.{base}
use Rattle.ahci_table.proofs.build.table_for.Given as goal

abbrev pub invariant-loop-piece : goal.invariant-loop-piece
invariant-loop-piece g l =
    l.table.items ≡ h2d_bytes (h2d_for (queued_for l.tag (work_of l.op) l.fua)) ++ replicate 108 0 ++ flat_map (entry_for (base l.tag)) (take l.piece-index l.pieces)
