use Rattle.std.proofs.Common.{sym, ◌∙◌}
use Rattle.ahci_ffi.proofs.OverLemmas.{filled}
use Rattle.ahci_c.proofs.MakingLemmas.{is_empty}
use Rattle.ahci_c.proofs.create.ahci_port_over.Goals as goal

pub returns : goal.returns
returns c = filled _ _ _ _ _ _ (is_empty _ (sym c.is_full.ensures ∙ c.if-is_full.false)) c.make_over.ensures c.fill.ensures
