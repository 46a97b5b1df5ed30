-- Its pieces serve a proper command; the window that is written is fit, and carries what was asked.
use Rattle.std.proofs.Common.{◌∙◌, ap}
use Rattle.ncq_journal.specs.Work.{work_of}
use Rattle.ahci_table.specs.Defaults.{list_of}
use Rattle.ahci_table.specs.Refusal.{refusal}
use Rattle.ahci_table.proofs.FitLemmas.{built_over_layout}
use Rattle.ahci_table.proofs.ProperLemmas.{proper_serves}
use Rattle.ahci_table.proofs.window.Window.over_layout.Goals as goal

pub written-requires-clause-free : goal.written-requires-clause-free
written-requires-clause-free g c =
    ap (refusal (work_of c.args.op.now)) (c.deref.ensures.0 ∙ c.pieces-pieces.ensures ∙ ap (list_of c.args.layout) c.sectors.ensures) ∙ proper_serves c.args.layout (work_of c.args.op.now) c.requires.proper

pub returns-clause-carries : goal.returns-clause-carries
returns-clause-carries g c =
    (built_over_layout c.args.layout c.args.tag (work_of c.args.op.now) c.args.fua _ c.in_ok-window.window c.requires.tag c.requires.proper
    (c.deref.ensures.0 ∙ c.pieces-pieces.ensures ∙ ap (list_of c.args.layout) c.sectors.ensures) c.in_ok-window.ensures.bytes).0

pub returns-clause-fit : goal.returns-clause-fit
returns-clause-fit g c =
    (built_over_layout c.args.layout c.args.tag (work_of c.args.op.now) c.args.fua _ c.in_ok-window.window c.requires.tag c.requires.proper
    (c.deref.ensures.0 ∙ c.pieces-pieces.ensures ∙ ap (list_of c.args.layout) c.sectors.ensures) c.in_ok-window.ensures.bytes).1
