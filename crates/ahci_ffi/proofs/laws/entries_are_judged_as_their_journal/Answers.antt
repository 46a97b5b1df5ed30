use Rattle.ahci_ffi.proofs.JudgedLemmas.{entries_are_judged}
use Rattle.ahci_ffi.proofs.laws.entries_are_judged_as_their_journal.Goals as goal

pub returns : goal.returns
returns c = entries_are_judged
