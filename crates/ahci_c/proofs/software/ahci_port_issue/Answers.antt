use Rattle.std.proofs.Common.{Some, ap, sym, ◌∙◌}
use Rattle.ahci_ffi.proofs.OverLemmas.{some_supersedes}
use Rattle.ahci_c.proofs.software.ahci_port_issue.Goals as goal

pub returns : goal.returns
returns c =
    some_supersedes _ _ _ _ _ c.issue-answer.result _ _ _ (sym c.in-Some.ensures.taken ∙ ap Some (sym c.deref_mut.ensures.value)) c.in-Some.ensures.left c.back_anew.ensures.place
    c.back_anew.ensures.headline c.back_anew.ensures.number c.issue-answer.ensures
