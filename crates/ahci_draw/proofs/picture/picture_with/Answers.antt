use Rattle.std.proofs.Common.{◌++◌, ◌∙◌, ap, length, refl, sym}
use Rattle.ahci_draw.specs.Heading.{heading_text}
use Rattle.ahci_draw.specs.Lines.{texts}
use Rattle.ahci_draw.specs.Picture.{picture_with}
use Rattle.ahci_draw.proofs.LinesLemmas.{texts_count}
use Rattle.ahci_draw.proofs.PieceLemmas.{three}
use Rattle.ahci_draw.proofs.picture.picture_with.Goals as goal

pub returns : goal.returns
unfolding picture_with
returns g c =
    c.into_bytes.ensures ∙ three _ _ _ _ _ _ _ _ _ _ c.in_ok-push_heading.ensures c.in_ok-push_body.ensures c.in_ok-push.ensures.ok
    (ap (λ n. heading_text n (length c.args.tags.now)) (sym (texts_count c.args.lines.now))) refl refl
    ∙ ap (λ t. t ++ picture_with c.args.tags.now (texts c.args.lines.now)) c.new-text.ensures
