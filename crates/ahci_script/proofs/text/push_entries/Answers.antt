-- One entry more.
use Rattle.std.proofs.Common.{arith}
use Rattle.ahci_script.proofs.EntriesLemmas.{appended-more}
use Rattle.ahci_script.proofs.text.push_entries.Goals as goal

pub loop-entry-preserved : goal.loop-entry-preserved
loop-entry-preserved g c = (
  appended-more c.args.text.now.bytes c.loop-entry.text.bytes _ c.args.first c.loop-entry.entry (omega arith) c.loop-entry.invariant.0 c.push_reserved_number.ensures.bytes,
  omega arith,
  omega arith,
)
