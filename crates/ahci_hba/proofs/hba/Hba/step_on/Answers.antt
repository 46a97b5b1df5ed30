-- The transfer goes on.
use Rattle.std.proofs.Common.{◌≡◌, ap, sym, subst, ◌∙◌}
use Rattle.ahci_hba.specs.Delivering.{stepped_on}
use Rattle.ahci_hba.specs.HbaView.{dma_of}
use Rattle.ahci_hba.proofs.DeliveringLemmas.{steps_on}
use Rattle.ahci_hba.proofs.hba.Hba.step_on.Goals as goal

pub returns-in-Pio-clause-ok : goal.returns-in-Pio-clause-ok
returns-in-Pio-clause-ok g c =
    subst (λ v. c.move_on.new.self ≡ stepped_on v c.args.self.now.dma) c.self.view_is
    (steps_on _ c.move_on.new.self _ c.args.self.now.dma
    (sym (ap (λ v. v.dma) c.self.view_is) ∙ ap (λ w. dma_of w) (sym c.replace.ensures.value ∙ c.in-Pio.is)) c.move_on.ensures)
