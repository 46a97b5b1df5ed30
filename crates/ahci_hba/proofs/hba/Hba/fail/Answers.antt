-- The port's step, and its answer.
use Rattle.std.proofs.Common.{ap, sym, ◌∙◌}
use Rattle.hba_command.specs.Action.{action_of}
use Rattle.ahci_hba.specs.Failing.{own_queued}
use Rattle.ahci_hba.proofs.AnswerLemmas.{fails, fails_nowhere}
use Rattle.ahci_hba.proofs.hba.Hba.fail.Goals as goal

pub returns-clause-ready : goal.returns-clause-ready
returns-clause-ready g c =
    fails_nowhere c.args.self.now c.args.slot c.args.lba c.fails_at.result c.in-Some.queued c.fail_request.result (sym c.if-not-may_serve.ensures)
    (ap (λ a. own_queued a c.args.lba) (sym (c.action_of.ensures ∙ ap action_of c.task_in.ensures)) ∙ sym c.own_queued.ensures ∙ c.in-Some.is) c.fails_at.ensures
    c.fail_request.ensures.answer ∙ c.if-not-fail_request.false

pub returns-clause-ok : goal.returns-clause-ok
returns-clause-ok g c =
    fails c.args.slot c.args.error c.args.lba c.fails_at.result c.in-Some.queued c.args.self.now c.fail_request.new.self c.fail_queued.new.self _ _ _
    (ap (λ a. own_queued a c.args.lba) (sym (c.action_of.ensures ∙ ap action_of c.task_in.ensures)) ∙ sym c.own_queued.ensures ∙ c.in-Some.is) c.fails_at.ensures
    (c.fail_request.ensures.failed c.if-not-fail_request.false) c.in_ok-list.ensures c.in_ok-bytes.ensures.count c.in_ok-bytes.ensures.bytes c.fail_queued.ensures
