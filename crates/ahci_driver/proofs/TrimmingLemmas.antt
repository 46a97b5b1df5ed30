-- The journal that a port hands out.
use Rattle.std.proofs.Common.{◌≡◌, ap, sym, subst}
use Rattle.std.specs.Prelude.{Result, Ok, Err, IfOk}
use Rattle.ncq_journal.specs.History.{History}
use Rattle.ahci_port.specs.Headline.{Headline}
use Rattle.ahci_port.specs.PortView.{PortView, journal_in, sectors_in}
use Rattle.ahci_port.specs.Looking.{HasShape}
use Rattle.ahci_driver.specs.Trimming.{IsKept}

pub kept : {E : Type 0} (port : PortView) (x : Result History E) → Headline port → HasShape port
    → IfOk x (λ j. j ≡ journal_in port) → IfOk x (λ j. IsKept j.past)
kept port (Ok j) h shape is = subst IsKept (sym (ap (λ (k : History). k.past) is)) (record { sectors = sectors_in port; depth = port.depth; few = shape.most; lawful = h.lawful })
kept port (Err e) h shape is = tt
