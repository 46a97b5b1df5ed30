-- The work is a transfer by PIO.
use Rattle.std.proofs.Common.{◌≡◌, true, IfOk, OnErr, ap, subst, sym, ◌∙◌}
use Rattle.ahci_hba.specs.Delivering.{content_of, sends_data}
use Rattle.ahci_hba.specs.HbaView.{dma_of}
use Rattle.ahci_hba.proofs.hba.Hba.next_content.Goals as goal

pub returns-in-Pio-clause-ok : goal.returns-in-Pio-clause-ok
returns-in-Pio-clause-ok g c =
    subst (λ x. IfOk c.block_content.result (λ s. s ≡ content_of x)) (sym (ap (λ w. dma_of w) c.in-Pio.is) ∙ ap (λ v. v.dma) c.self.view_is) c.block_content.ensures.ok

pub returns-in-Pio-clause-lacking : goal.returns-in-Pio-clause-lacking
returns-in-Pio-clause-lacking g c =
    subst (λ x. OnErr c.block_content.result (sends_data x ≡ true)) (sym (ap (λ w. dma_of w) c.in-Pio.is) ∙ ap (λ v. v.dma) c.self.view_is)
    c.block_content.ensures.lacking
