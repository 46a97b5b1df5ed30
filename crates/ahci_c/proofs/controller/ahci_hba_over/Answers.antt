use Rattle.std.proofs.Common.{sym, ◌∙◌}
use Rattle.hba_ffi.proofs.OverLemmas.{filled}
use Rattle.ahci_c.proofs.controller.ahci_hba_over.Goals as goal

pub returns : goal.returns
returns c = filled _ _ _ _ _ _ (sym c.is_full.ensures ∙ c.if-is_full.false) c.make_over.ensures c.fill.ensures
