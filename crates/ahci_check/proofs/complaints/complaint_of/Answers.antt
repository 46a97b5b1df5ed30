use Rattle.std.proofs.Common.{IfSome, ap, subst, sym, ◌∙◌}
use Rattle.ahci_replay.proofs.SessionLemmas.{if_ok_from}
use Rattle.ahci_check.specs.Complaints.{IsColumn, ends_replay, of_reading}
use Rattle.ahci_check.proofs.ComplaintLemmas.{complaint_agrees, complaint_column}
use Rattle.ahci_check.proofs.complaints.complaint_of.Goals as goal

pub returns-clause-complaint : goal.returns-clause-complaint
returns-clause-complaint g c =
    if_ok_from c.judged.result _ _ c.judged.ensures (λ said is. is ∙ ap (of_reading c.args.place c.args.number c.args.line.now) c.read_line.ensures.line)

pub returns-clause-language : goal.returns-clause-language
returns-clause-language g c =
    if_ok_from c.judged.result _ _ c.judged.ensures
    (λ said is. ap ends_replay (is ∙ ap (of_reading c.args.place c.args.number c.args.line.now) c.read_line.ensures.line) ∙ complaint_agrees c.args.place c.args.number c.args.line.now)

pub returns-clause-column : goal.returns-clause-column
returns-clause-column g c =
    if_ok_from c.judged.result _ _ c.judged.ensures
    (λ said is. subst (λ complaint. IfSome complaint (λ k. IfSome k.column (IsColumn c.args.line.now)))
    (sym (is ∙ ap (of_reading c.args.place c.args.number c.args.line.now) c.read_line.ensures.line))
    (complaint_column c.args.place c.args.number c.args.line.now))
