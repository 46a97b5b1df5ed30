use Rattle.std.proofs.Common.{◌≡◌, true, ap, subst, sym, ◌∙◌}
use Rattle.ahci_hba.specs.Dropping.{drops_requests, is_reset, port_after}
use Rattle.ahci_hba.specs.HbaView.{HbaView}
use Rattle.ahci_hba.proofs.DroppingLemmas.{resets}
use Rattle.ahci_hba.proofs.hba.Hba.reset_port.Goals as goal

pub returns-then-drops_requests-clause-port : goal.returns-then-drops_requests-clause-port
returns-then-drops_requests-clause-port g c =
    resets c.args.consequence _ c.reset.new.port (subst (λ v. drops_requests c.args.consequence v ≡ true) (sym c.self.view_is) (sym c.drops_requests.ensures ∙ c.if-drops_requests.true)) c.reset.ensures.port
    ∙ ap {A = HbaView} {B = HbaView} (λ v. record v { port = port_after (is_reset c.args.consequence v) v.port }) c.self.view_is
