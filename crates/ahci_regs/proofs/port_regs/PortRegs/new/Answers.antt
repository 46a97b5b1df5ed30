-- A port that has not been started is lawful.
use Rattle.std.proofs.Common.{sym, subst}
use Rattle.ahci_regs.specs.PortState.{IsLawful}
use Rattle.ahci_regs.proofs.StateLemmas.{lawful-first, first-fields}
use Rattle.ahci_regs.proofs.port_regs.PortRegs.new.Goals as goal

pub invariant_of-result : goal.invariant_of-result
invariant_of-result c = subst IsLawful (sym (first-fields c.args.depth _ _ (c.empty.ensures tt) (c.empty-2.ensures tt))) (lawful-first c.args.depth c.requires.low c.requires.high)
