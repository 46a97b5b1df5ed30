use Rattle.std.proofs.Common.{sym, ◌∙◌}
use Rattle.ahci_hba.proofs.RecoveringLemmas.{failed_is_owned}
use Rattle.ahci_hba.proofs.hba.recover.recover.Goals as goal

pub unreachable-requires-in_default : goal.unreachable-requires-in_default
unreachable-requires-in_default g c =
    failed_is_owned c.args.port.now c.recover.new.self c.in-Ok.tag c.keeps_its_promise.ensures.headline c.in-Ok.ensures.failed c.in-Ok.ensures.recovered
    (sym c.owner.ensures ∙ c.in_default.is)
