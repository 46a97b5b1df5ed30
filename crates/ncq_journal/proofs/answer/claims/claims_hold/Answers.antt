use Rattle.std.proofs.Common.{◌<◌, ◌+◌, [], length, rules, take, arith}
use Rattle.ncq_journal.specs.declared.outcome.Outcome.TheVariants as outcome
use Rattle.ncq_journal.specs.History.{history_of}
use Rattle.ncq_journal.specs.Passing.{completed_over}
use Rattle.ncq_journal.specs.Work.{work_of}
use Rattle.ncq_journal.proofs.ClaimLemmas.{judged_all, judging_answer, judging_none, judging_on}
use Rattle.ncq_journal.proofs.PassEventLemmas.{IsAt, complete_ending, complete_moving, complete_next, fail_ending, fail_next, issue_low, issue_next, quiet_next, zero_fits, zero_next}
use Rattle.ncq_journal.proofs.answer.claims.claims_hold.Goals as goal
use Rattle.ncq_journal.proofs.answer.claims.claims_hold.Goals.{in-Issue, in-Complete, in-Fail, in-Zero, in_default}

pub loop-number-init : goal.loop-number-init
loop-number-init g c = rw (c.in_ok-now.ensures.items, c.in_ok-requests.ensures, c.in_ok-holding.ensures)
    (judging_none c.args.image.now (length c.args.events.now) c.args.depth c.args.claims.now)

pub index_mut-requires : goal.index_mut-requires
index_mut-requires g c =
    let low : c.in-Issue.tag < length c.loop-number.requests.items = issue_low (record { whole = c.requires.whole; low = c.loop-number-test.true; is = c.index-events-number.is; lawful = c.requires.lawful }) c.in-Issue.is c.loop-number.invariant.passed in
    search rules

pub asked-request-requires-clause-low : goal.asked-request-requires-clause-low
asked-request-requires-clause-low g c =
    rw c.deref.ensures.value (complete_ending (record { whole = c.requires.whole; low = c.loop-number-test.true; is = c.index-events-number.is; lawful = c.requires.lawful }) c.in-Complete.is c.loop-number.invariant.passed).low

pub asked-request-requires-clause-some : goal.asked-request-requires-clause-some
asked-request-requires-clause-some g c =
    (complete_ending (record { whole = c.requires.whole; low = c.loop-number-test.true; is = c.index-events-number.is; lawful = c.requires.lawful }) c.in-Complete.is c.loop-number.invariant.passed).some

pub asked-request-requires-clause-number : goal.asked-request-requires-clause-number
asked-request-requires-clause-number g c =
    rw c.deref.ensures.value (complete_ending (record { whole = c.requires.whole; low = c.loop-number-test.true; is = c.index-events-number.is; lawful = c.requires.lawful }) c.in-Complete.is c.loop-number.invariant.passed).number

pub completed_over-holds-requires-clause-fits : goal.completed_over-holds-requires-clause-fits
completed_over-holds-requires-clause-fits g c =
    (complete_moving (record { whole = c.requires.whole; low = c.loop-number-test.true; is = c.index-events-number.is; lawful = c.requires.lawful }) c.in-Complete.is c.asked-request.ensures c.loop-number.invariant.passed).fits

pub completed_over-holds-requires-clause-whole : goal.completed_over-holds-requires-clause-whole
completed_over-holds-requires-clause-whole g c =
    (complete_moving (record { whole = c.requires.whole; low = c.loop-number-test.true; is = c.index-events-number.is; lawful = c.requires.lawful }) c.in-Complete.is c.asked-request.ensures c.loop-number.invariant.passed).whole

pub note-requires : goal.note-requires
note-requires g c =
    let low : c.asked-request.result.0 < length c.loop-number.invariant.answers = (complete_ending (record { whole = c.requires.whole; low = c.loop-number-test.true; is = c.index-events-number.is; lawful = c.requires.lawful }) c.in-Complete.is c.loop-number.invariant.passed).within _ c.asked-request.ensures in
    let kept = c.loop-number.invariant.count in
    let known = c.loop-number.invariant.passed.count in omega arith

pub asked-request-requires-in-Fail-clause-low : goal.asked-request-requires-in-Fail-clause-low
asked-request-requires-in-Fail-clause-low g c =
    rw c.deref-in-Fail.ensures.value (fail_ending (record { whole = c.requires.whole; low = c.loop-number-test.true; is = c.index-events-number.is; lawful = c.requires.lawful }) c.in-Fail.is c.loop-number.invariant.passed).low

pub asked-request-requires-in-Fail-clause-some : goal.asked-request-requires-in-Fail-clause-some
asked-request-requires-in-Fail-clause-some g c =
    (fail_ending (record { whole = c.requires.whole; low = c.loop-number-test.true; is = c.index-events-number.is; lawful = c.requires.lawful }) c.in-Fail.is c.loop-number.invariant.passed).some

pub asked-request-requires-in-Fail-clause-number : goal.asked-request-requires-in-Fail-clause-number
asked-request-requires-in-Fail-clause-number g c =
    rw c.deref-in-Fail.ensures.value (fail_ending (record { whole = c.requires.whole; low = c.loop-number-test.true; is = c.index-events-number.is; lawful = c.requires.lawful }) c.in-Fail.is c.loop-number.invariant.passed).number

pub note-requires-in-Fail : goal.note-requires-in-Fail
note-requires-in-Fail g c =
    let low : c.asked-request-in-Fail.result.0 < length c.loop-number.invariant.answers = (fail_ending (record { whole = c.requires.whole; low = c.loop-number-test.true; is = c.index-events-number.is; lawful = c.requires.lawful }) c.in-Fail.is c.loop-number.invariant.passed).within _ c.asked-request-in-Fail.ensures in
    let kept = c.loop-number.invariant.count in
    let known = c.loop-number.invariant.passed.count in omega arith

pub zeroed_over-requires : goal.zeroed_over-requires
zeroed_over-requires g c =
    zero_fits (record { whole = c.requires.whole; low = c.loop-number-test.true; is = c.index-events-number.is; lawful = c.requires.lawful }) c.in-Zero.is c.loop-number.invariant.passed

pub loop-number-preserved : goal.loop-number-preserved
loop-number-preserved g c =
    let now = c.loop-number.now.items in
    let requests = c.loop-number.requests.items in
    let claims = c.args.claims.now in
    let holding = c.loop-number.holding.items in
    let answers = c.loop-number.invariant.answers in
    let past = history_of (take c.loop-number.number c.args.events.now) in
    let more = history_of (take (c.loop-number.number + 1) c.args.events.now) in
    let total = length c.args.events.now in
    let depth = c.args.depth in
    let at : IsAt c.args.image.now c.args.events.now depth c.loop-number.number c.index-events-number.result =
    record { whole = c.requires.whole; low = c.loop-number-test.true; is = c.index-events-number.is; lawful = c.requires.lawful } in
    elim c.match-event.branch [
      | in-Issue w ↦ rw (w.now-is, w.requests-is, w.holding-is)
          (judging_on c.args.image.now past more total depth now now requests _ claims holding c.loop-number.invariant
          (issue_next at w.in-Issue.is c.loop-number.invariant.passed))
      | in-Complete w ↦
          (let work = work_of w.asked-request.result.1.now in
          let e = complete_ending at w.in-Complete.is c.loop-number.invariant.passed in
          rw (w.now-is, w.requests-is, w.holding-is, w.note.ensures)
          (judging_answer c.args.image.now past more total depth w.asked-request.result.0 (completed_over now c.loop-number.number work) w.completed_over-holds.result
          now w.completed_over-holds.new.image.items requests requests claims holding c.loop-number.invariant
          (e.within (record { number = w.asked-request.result.0; work = work }) w.asked-request.ensures) w.completed_over-holds.ensures.claim
          (complete_next at w.in-Complete.is w.asked-request.ensures w.completed_over-holds.ensures.image c.loop-number.invariant.passed)))
      | in-Fail w ↦
          (let work = work_of w.asked-request-in-Fail.result.1.now in
          let e = fail_ending at w.in-Fail.is c.loop-number.invariant.passed in
          rw (w.now-is, w.requests-is, w.holding-is, w.note-in-Fail.ensures)
          (judging_answer c.args.image.now past more total depth w.asked-request-in-Fail.result.0
          (record { entry = c.loop-number.number; outcome = outcome.Failed w.in-Fail.error w.in-Fail.lba; bytes = [] }) w.is_claimed-holds.result
          now now requests requests claims holding c.loop-number.invariant
          (e.within (record { number = w.asked-request-in-Fail.result.0; work = work }) w.asked-request-in-Fail.ensures) w.is_claimed-holds.ensures
          (fail_next at w.in-Fail.is w.asked-request-in-Fail.ensures c.loop-number.invariant.passed)))
      | in-Zero w ↦ rw (w.now-is, w.requests-is, w.holding-is)
          (judging_on c.args.image.now past more total depth now w.zeroed_over.new.image.items requests requests claims holding c.loop-number.invariant
          (zero_next at w.in-Zero.is w.zeroed_over.ensures.len w.zeroed_over.ensures.zeros c.loop-number.invariant.passed))
      | in_default w ↦ rw (w.now-is, w.requests-is, w.holding-is)
          (judging_on c.args.image.now past more total depth now now requests requests claims holding c.loop-number.invariant
          (quiet_next at w.in_default.not-Issue w.in_default.not-Complete w.in_default.not-Fail w.in_default.not-Zero c.loop-number.invariant.passed))
    ]

pub returns : goal.returns
returns g c = judged_all c.args.image.now c.args.events.now c.args.depth c.loop-number.number c.loop-number.now.items
    c.loop-number.requests.items c.args.claims.now c.loop-number.holding.items c.loop-number-test.false c.loop-number.invariant
