-- The table is as long as its pieces say; the data come after it.
use Rattle.std.proofs.Common.{length, ap, ◌∙◌}
use Rattle.ncq_journal.specs.Work.{work_of}
use Rattle.ahci_table.proofs.BuildLemmas.{built, length-table}
use Rattle.ahci_table.proofs.RefusalLemmas.{free_from}
use Rattle.ahci_table.proofs.window.Window.written.Goals as goal

pub with_data-requires-clause-table : goal.with_data-requires-clause-table
with_data-requires-clause-table g c = ap length c.in_ok-table.ensures ∙ length-table c.args.tag (work_of c.args.op.now) c.args.fua c.args.pieces.now

pub returns : goal.returns
returns g c =
    let work = work_of c.args.op.now in
    let ps = c.args.pieces.now in
    record {
      bytes = built c.args.tag work c.args.fua ps c.header_for.result _ _ (free_from work ps c.requires.free) c.header_for.ensures c.in_ok-table.ensures
          c.in_ok-with_data.ensures.len c.in_ok-with_data.ensures.text c.in_ok-with_data.ensures.others;
    }
