use Rattle.std.proofs.Common.{Some, ap, sym, ◌∙◌}
use Rattle.hba_ffi.proofs.OverLemmas.{some_changes}
use Rattle.ahci_c.proofs.events.ahci_hba_unplug.Goals as goal

pub returns : goal.returns
returns c =
    some_changes _ _ _ _ c.unplug-answer.result _ _ _ (sym c.in-Some.ensures.taken ∙ ap Some (sym c.deref_mut.ensures.value)) c.back.ensures.place c.back.ensures.headline
    c.back.ensures.number (c.unplug-answer.ensures.done, c.unplug-answer.ensures.state, c.unplug-answer.ensures.counted)
