-- What was served is answered.
use Rattle.std.proofs.Common.{◌≡◌, ap, sym, subst, ◌∙◌}
use Rattle.ahci_hba.specs.Delivering.{served_answer}
use Rattle.ahci_hba.specs.HbaView.{dma_of}
use Rattle.ahci_hba.proofs.DeliveringLemmas.{delivers}
use Rattle.ahci_hba.proofs.hba.Hba.deliver_served.Goals as goal

pub returns-in-Served-clause-ok : goal.returns-in-Served-clause-ok
returns-in-Served-clause-ok g c =
    subst (λ v. c.answer_with.new.self ≡ served_answer v c.args.self.now.dma) c.self.view_is
    (delivers _ _ c.in-Served.slot c.in-Served.task c.in-Served.field-2 c.in-Served.list.items c.in_ok-bytes.bytes.items _ c.args.self.now.dma
    (sym (ap (λ v. v.dma) c.self.view_is) ∙ ap (λ w. dma_of w) (sym c.replace.ensures.value ∙ c.in-Served.is))
    c.in_ok-bytes.ensures.ok c.action_of.ensures c.answer_with.ensures)
