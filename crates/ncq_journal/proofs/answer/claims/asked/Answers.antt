use Rattle.std.proofs.Common.{sym, ◌∙◌, ◌<◌, length, ap, arith}
use Rattle.ncq_journal.specs.Entry.{entry_of}
use Rattle.ncq_journal.specs.Work.{work_of}
use Rattle.ncq_journal.proofs.PassLemmas.{asked_there, not_issue, same_request}
use Rattle.ncq_journal.proofs.answer.claims.asked.Goals as goal

pub bounds-past-request : goal.bounds-past-request
bounds-past-request g c = (asked_there c.args.past.now c.args.tag c.in-Some.request (sym c.in-Some.is ∙ c.requires.number)).within

pub offset_bounds-past-request : goal.offset_bounds-past-request
offset_bounds-past-request g c =
    let low : c.in-Some.request < length c.args.past.now = (asked_there c.args.past.now c.args.tag c.in-Some.request (sym c.in-Some.is ∙ c.requires.number)).within in omega arith

pub unreachable-requires-in_default-past : goal.unreachable-requires-in_default-past
unreachable-requires-in_default-past g c =
    let a = asked_there c.args.past.now c.args.tag c.in-Some.request (sym c.in-Some.is ∙ c.requires.number) in
    not_issue c.index-past-request.result c.args.tag a.r.work c.in_default-past.not-Issue (a.issue c.index-past-request.result c.index-past-request.is)

pub returns : goal.returns
returns g c =
    let a = asked_there c.args.past.now c.args.tag c.in-Some.request (sym c.in-Some.is ∙ c.requires.number) in
    a.is ∙ same_request a.r c.in-Some.request c.args.tag c.in-Issue.field-0 (work_of c.in-Issue.op) a.number_is
    (ap entry_of (sym c.in-Issue.is) ∙ a.issue c.index-past-request.result c.index-past-request.is)
