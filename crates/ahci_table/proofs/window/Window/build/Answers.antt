-- The window that is written is fit, and carries what was asked.
use Rattle.std.proofs.Common.{false, sym, ◌∙◌}
use Rattle.ncq_journal.specs.Work.{work_of}
use Rattle.ahci_table.proofs.FitLemmas.{fit_built, carries_built}
use Rattle.ahci_table.proofs.RefusalLemmas.{free_from}
use Rattle.ahci_table.proofs.window.Window.build.Goals as goal

pub returns-in-Ok-clause-carries : goal.returns-in-Ok-clause-carries
returns-in-Ok-clause-carries g c =
    let free = free_from (work_of c.args.op.now) c.args.pieces.now (sym c.refusal.ensures ∙ c.in_default.is) in
    carries_built c.args.tag (work_of c.args.op.now) false c.args.pieces.now c.in-Ok.window c.requires free c.in-Ok.ensures.bytes

pub returns-in-Ok-clause-fit : goal.returns-in-Ok-clause-fit
returns-in-Ok-clause-fit g c =
    let free = free_from (work_of c.args.op.now) c.args.pieces.now (sym c.refusal.ensures ∙ c.in_default.is) in
    fit_built c.args.tag (work_of c.args.op.now) false c.args.pieces.now c.in-Ok.window c.requires free c.in-Ok.ensures.bytes
