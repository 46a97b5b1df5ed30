-- One entry more.
use Rattle.std.proofs.Common.{◌++◌, replicate}
use Rattle.sata_fis.specs.Command.{h2d_for}
use Rattle.sata_fis.specs.Encoding.{h2d_bytes}
use Rattle.ncq_journal.specs.Work.{work_of}
use Rattle.ahci_table.specs.Build.{queued_for}
use Rattle.ahci_table.specs.Window.{base}
use Rattle.ahci_table.proofs.BuildLemmas.{table_more}
use Rattle.ahci_table.proofs.build.table_for.Goals as goal

pub loop-piece-preserved : goal.loop-piece-preserved
loop-piece-preserved g c =
    table_more (h2d_bytes (h2d_for (queued_for c.args.tag (work_of c.args.op.now) c.args.fua)) ++ replicate 108 0)
    (base c.args.tag) c.base-start.result c.loop-piece.piece-index c.args.pieces.now _ _ _ _ c.loop-piece-test.true
    c.loop-piece.invariant c.in_ok-extend_from_slice.ensures.items c.entry_for.ensures c.base-start.ensures.value
