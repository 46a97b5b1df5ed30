use Rattle.std.proofs.Common.{Some, ap, sym, ◌∙◌}
use Rattle.hba_ffi.proofs.OverLemmas.{some_changes}
use Rattle.ahci_c.proofs.events.ahci_hba_plug_other.Goals as goal

pub returns : goal.returns
returns c =
    some_changes _ _ _ _ c.plug_other-answer.result _ _ _ (sym c.in-Some.ensures.taken ∙ ap Some (sym c.deref_mut.ensures.value)) c.back.ensures.place c.back.ensures.headline
    c.back.ensures.number c.plug_other-answer.ensures
