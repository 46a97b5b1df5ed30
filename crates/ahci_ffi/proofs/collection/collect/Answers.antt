use Rattle.std.proofs.Common.{◌∙◌, length, sym}
use Rattle.ahci_ffi.specs.Refusals.{slot_refusal}
use Rattle.ahci_ffi.proofs.ArgumentLemmas.{with_small}
use Rattle.ahci_ffi.proofs.CollectingLemmas.{told_done}
use Rattle.ahci_ffi.proofs.collection.collect.Goals as goal

pub returns : goal.returns
returns g c =
    let a = c.args in
    told_done _ _ _ (with_small a.tag (slot_refusal a.port.now a.tag a.number (length a.out.now)) c.if-tag-ge32.false ∙ (sym c.refusal.ensures ∙ c.in_default.is)) c.taken.ensures
