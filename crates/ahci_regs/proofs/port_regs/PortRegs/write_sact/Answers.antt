-- The slots stay below the depth.
use Rattle.std.proofs.Common.{sym, ◌∙◌, subst}
use Rattle.std.proofs.lemmas.Bool.{false≢true}
use Rattle.ahci_regs.specs.PortState.{IsSlots}
use Rattle.word_bits.specs.Places.{bits}
use Rattle.word_bits.proofs.BitsLemmas.{length-bits}
use Rattle.ahci_regs.specs.Fields.{state_of}
use Rattle.ahci_regs.proofs.StateLemmas.{kept_by_command, slots-union}
use Rattle.ahci_regs.proofs.port_regs.PortRegs.write_sact.Goals as goal

pub invariant_of-self : goal.invariant_of-self
invariant_of-self c =
    let s = state_of c.self.inside in
    let h = c.self.invariant in
    kept_by_command s s.st s.fre _ _ h (subst (IsSlots s.depth) (sym c.in_ok-self-inside.ensures.1) (slots-union s.depth s.sact (bits c.args.value) (length-bits c.args.value) h.sact))
    h.ci h.receiving (λ e. absurd (false≢true (sym e ∙ c.in_ok-self-inside.ensures.0)))
