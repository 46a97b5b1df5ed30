use Rattle.std.proofs.Common.{◌++◌, ◌∙◌, ap}
use Rattle.streams.proofs.FoundLemmas.{on_ok_from}
use Rattle.ahci_draw.specs.Heading.{heading_shape, width_of}
use Rattle.ahci_draw.proofs.heading.push_heading.Goals as goal

pub returns : goal.returns
unfolding heading_shape
returns g c =
    on_ok_from c.push_pieces.result _ _ c.push_pieces.ensures
    (λ last. last ∙ ap (λ w. c.args.text.now.bytes ++ heading_shape w c.height_of-height.result c.args.columns c.args.lanes) c.width_of-width.ensures
    ∙ ap (λ h. c.args.text.now.bytes ++ heading_shape (width_of c.args.columns) h c.args.columns c.args.lanes) c.height_of-height.ensures)
