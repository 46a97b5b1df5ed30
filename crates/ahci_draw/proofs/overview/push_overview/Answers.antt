use Rattle.std.proofs.Common.{◌++◌, ◌∙◌, ap}
use Rattle.streams.proofs.FoundLemmas.{on_ok_from}
use Rattle.ahci_draw.specs.Lines.{texts}
use Rattle.ahci_draw.specs.Overview.{overview_of}
use Rattle.ahci_draw.proofs.overview.push_overview.Goals as goal

pub returns : goal.returns
returns g c =
    on_ok_from c.push_overview_of.result _ _ c.push_overview_of.ensures
    (λ last. last ∙ ap (λ signs. c.args.text.now.bytes ++ overview_of signs (texts c.args.lines.now)) (c.deref.ensures.value ∙ c.in_ok-signs.ensures))
