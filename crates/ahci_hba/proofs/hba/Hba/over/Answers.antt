use Rattle.std.proofs.Common.{◌≡◌, IfOk, subst}
use Rattle.ahci_port.specs.PortView.{PortView}
use Rattle.ahci_hba.specs.States.{hba_over}
use Rattle.ahci_hba.proofs.NewLemmas.{made_or}
use Rattle.ahci_hba.proofs.hba.Hba.over.Goals as goal

pub returns-clause-ok : goal.returns-clause-ok
returns-clause-ok g c =
    subst (λ (p : PortView). IfOk c.assembled.result (λ h. h ≡ hba_over p.grows p.image c.args.depth c.args.capabilities)) c.in_ok-port.ensures.port c.assembled.ensures.ok

pub returns-clause-fault : goal.returns-clause-fault
returns-clause-fault g c = made_or c.in_ok-port.port _ _ _ c.in_ok-port.ensures.fault c.assembled.ensures.err
