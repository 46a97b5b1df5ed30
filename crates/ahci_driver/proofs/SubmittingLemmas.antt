-- A window that is fit, and a tag that is given back.
use Rattle.std.proofs.Common.{◌≡◌, ℕ, Bool, false, List, ap, sym, ◌∙◌, inl, inr}
use Rattle.std.proofs.lemmas.Bool.{cases_eq}
use Rattle.ahci_port.specs.Faults.{RefusesIssue}
use Rattle.ahci_port.specs.PortView.{PortView}
use Rattle.ahci_port.specs.declared.fault.IssueFault.{IssueFault}
use Rattle.ahci_port.specs.declared.fault.IssueFault.TheVariants as issue
use Rattle.ahci_table.specs.Fit.{IsFit}
use Rattle.ahci_table.specs.Window.{WindowState}
use Rattle.ahci_driver.specs.Submitting.{MayRefuseFit}
use Rattle.word_bits.specs.Places.{has_place, with_place, without_place}
use Rattle.word_bits.proofs.PlacesLemmas.{same_sets, length-with_place, length-without_place, has_place-with_other, has_place-without_other, has_place-without_same}

-- a port refuses a fit window for what the window can't mend
pub fit_refused : (port : PortView) (w : WindowState) (fault : IssueFault) → IsFit w → RefusesIssue port w fault → MayRefuseFit fault
fit_refused port w issue.BadHeader fit h = absurd (h.1 fit.header)
fit_refused port w issue.BadCommand fit h = absurd (h.1.1 fit.command)
fit_refused port w issue.WrongTag fit h = absurd (h.1.2 fit.tag)
fit_refused port w issue.BadList fit h = absurd (h.1.3 fit.listed)
fit_refused port w _ fit h = tt

-- a tag that was not the seat's, and is given back
pub given_back : (s : List Bool) (t : ℕ) → has_place s t ≡ false → without_place (with_place s t) t ≡ s
given_back s t fresh =
    same_sets (without_place (with_place s t) t) s (length-without_place (with_place s t) t ∙ length-with_place s t)
    (λ i low. elim (cases_eq i t) [
      | inl same ↦ ap (has_place (without_place (with_place s t) t)) same ∙ has_place-without_same (with_place s t) t ∙ sym fresh ∙ sym (ap (has_place s) same)
      | inr other ↦ has_place-without_other (with_place s t) t i other ∙ has_place-with_other s t i other
    ])
