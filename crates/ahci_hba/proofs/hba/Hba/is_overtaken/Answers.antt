use Rattle.std.proofs.Common.{ap, sym, ◌∙◌}
use Rattle.ahci_hba.specs.Outlook.{comes_behind}
use Rattle.ahci_hba.specs.Queueing.{distance_of}
use Rattle.ahci_hba.proofs.hba.Hba.is_overtaken.Goals as goal

pub returns : goal.returns
returns g c =
    c.comes_behind.ensures
    ∙ ap (comes_behind c.nearest_waiting.result) (c.distance.ensures ∙ ap (distance_of c.args.self.now.registers.port) c.number.ensures.value)
    ∙ sym (c.nearest_waiting.ensures.behind c.args.slot)
