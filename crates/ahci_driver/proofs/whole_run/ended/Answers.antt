use Rattle.std.proofs.Common.{◌∙◌, ap, length, map, rules, sym, inl, inr}
use Rattle.std.specs.Prelude.{Err}
use Rattle.std.proofs.lemmas.Result.{err_from_is_err_and}
use Rattle.ncq_journal.specs.Work.{work_of}
use Rattle.ahci_driver.specs.Gathering.{receipts_in}
use Rattle.ahci_driver.specs.Received.{received_of}
use Rattle.ahci_driver.specs.Running.{why_stopped}
use Rattle.ahci_driver.proofs.RunningLemmas.{all_late, ended_whole, for_these, replies_are, stopped_names}
use Rattle.ahci_driver.proofs.whole_run.ended.Goals as goal

pub in_order-requires-clause-some : goal.in_order-requires-clause-some
in_order-requires-clause-some g c = c.requires.some

pub in_order-requires-clause-each : goal.in_order-requires-clause-each
in_order-requires-clause-each g c = c.requires.each.0

pub checked-requires : goal.checked-requires
checked-requires g c = c.requires.some

pub returns-in-Some-clause-late : goal.returns-in-Some-clause-late
returns-in-Some-clause-late g c = c.in-Some.ensures.late

pub returns-clause-still : goal.returns-clause-still
returns-clause-still g c = c.checked.ensures.still

pub returns-clause-settled : goal.returns-clause-settled
returns-clause-settled g c = c.checked.ensures.settled

pub returns-in-Some-clause-names : goal.returns-in-Some-clause-names
returns-in-Some-clause-names g c =
    stopped_names (length (map work_of c.args.jobs.now)) c.args.ends.items c.in-Some.fault c.requires.among
    (sym (c.in-Some.ensures.why ∙ ap why_stopped c.deref.ensures.value))

pub returns-clause-late : goal.returns-clause-late
returns-clause-late g c =
    (all_late c.args.port c.args.handed.now (map work_of c.args.jobs.now) _ c.args.workers c.checked.result c.checked.ensures.why).0

pub returns-clause-names : goal.returns-clause-names
returns-clause-names g c =
    (all_late c.args.port c.args.handed.now (map work_of c.args.jobs.now) _ c.args.workers c.checked.result c.checked.ensures.why).1

pub returns-clause-foreign : goal.returns-clause-foreign
returns-clause-foreign g c = λ none other. inl (c.checked.ensures.foreign other)

pub returns-clause-why : goal.returns-clause-why
returns-clause-why g c = λ none.
    for_these c.args.port c.args.handed.now (map work_of c.args.jobs.now) (map received_of c.in_ok-replies.replies.items) _ c.args.workers c.checked.result
    (ap (map received_of) c.in_ok-replies.ensures.order) c.checked.ensures.why

pub returns-clause-replies : goal.returns-clause-replies
returns-clause-replies g c = replies_are c.checked.result c.in_ok-replies.replies _ c.checked.ensures.replies c.in_ok-replies.ensures.order

pub returns-in_err-clone-clause-foreign : goal.returns-in_err-clone-clause-foreign
returns-in_err-clone-clause-foreign g c = λ none other. inr (search rules)

pub returns-in_err-replies-clause-foreign : goal.returns-in_err-replies-clause-foreign
returns-in_err-replies-clause-foreign g c = λ none other.
    let p = err_from_is_err_and c.from_residual-in_err-replies.result c.from_residual-in_err-replies.ensures.1 in
    inr (p.1 ∙ ap Err p.2)

pub returns-clause-whole : goal.returns-clause-whole
returns-clause-whole g c =
    ended_whole c.checked.result c.args.jobs.now (map receipts_in c.args.ends.items) c.args.workers
    (replies_are c.checked.result c.in_ok-replies.replies _ c.checked.ensures.replies c.in_ok-replies.ensures.order) c.checked.ensures.settled
