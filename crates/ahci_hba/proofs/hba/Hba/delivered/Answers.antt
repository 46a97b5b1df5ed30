use Rattle.std.proofs.Common.{◌≡◌, true, IfOk, OnErr, ap, subst, sym, ◌∙◌}
use Rattle.ahci_hba.specs.Delivering.{delivered, sends_data}
use Rattle.ahci_hba.specs.HbaView.{dma_of}
use Rattle.ahci_hba.proofs.hba.Hba.delivered.Goals as goal

pub returns-in-Served-clause-ok : goal.returns-in-Served-clause-ok
returns-in-Served-clause-ok g c =
    subst (λ x. IfOk c.bytes_for.result (λ v. v.items ≡ delivered x)) (sym (ap (λ w. dma_of w) c.in-Served.is) ∙ ap (λ v. v.dma) c.self.view_is) c.bytes_for.ensures.ok

pub returns-in-Served-clause-lacking : goal.returns-in-Served-clause-lacking
returns-in-Served-clause-lacking g c =
    subst (λ x. OnErr c.bytes_for.result (sends_data x ≡ true)) (sym (ap (λ w. dma_of w) c.in-Served.is) ∙ ap (λ v. v.dma) c.self.view_is) c.bytes_for.ensures.lacking
