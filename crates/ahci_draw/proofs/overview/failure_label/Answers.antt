use Rattle.std.proofs.Common.{◌∙◌, ap, sym}
use Rattle.ahci_draw.specs.Lines.{label_of, texts, title_of}
use Rattle.ahci_draw.specs.Overview.{failure_label}
use Rattle.ahci_draw.proofs.overview.failure_label.Goals as goal

pub returns-in-Some : goal.returns-in-Some
returns-in-Some c =
    c.label_of.ensures ∙ ap label_of (c.title_of.ensures ∙ ap title_of c.line_at.ensures) ∙ sym (ap (failure_label (texts c.args.lines.now)) c.in-Some.is)
