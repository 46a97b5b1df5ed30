use Rattle.std.proofs.Common.{map, subst, sym}
use Rattle.ncq_journal.specs.Claims.{AreJudged}
use Rattle.ncq_journal.specs.Work.{work_of}
use Rattle.ahci_driver.specs.Received.{received_of}
use Rattle.ahci_driver.proofs.SettlingLemmas.{all_claimed, counted, counted_back, lacking}
use Rattle.ahci_driver.proofs.settlement.settle.Goals as goal

pub claimed-requires : goal.claimed-requires
claimed-requires g c = c.if-receipts-jobs.false

pub first_wrong-requires-clause-counted : goal.first_wrong-requires-clause-counted
first_wrong-requires-clause-counted g c = c.if-receipts-jobs.false

pub first_wrong-requires-clause-fit : goal.first_wrong-requires-clause-fit
first_wrong-requires-clause-fit g c = c.in_ok-claims.ensures.fit

pub first_wrong-requires-clause-end : goal.first_wrong-requires-clause-end
first_wrong-requires-clause-end g c = c.in_ok-claims.ensures.end

pub first_wrong-requires-clause-held : goal.first_wrong-requires-clause-held
first_wrong-requires-clause-held g c =
    subst (AreJudged c.args.port.now.starting c.args.port.now.past c.in_ok-claims.claims.places.items) (sym c.deref-2.ensures.value)
    (subst (λ claims. AreJudged c.args.port.now.starting c.args.port.now.past claims c.in_ok-holding.holding.items) c.deref.ensures.value c.in_ok-holding.ensures)

pub unclaimed-requires : goal.unclaimed-requires
unclaimed-requires g c = rw c.deref-3.ensures.value
    (all_claimed c.args.port.now c.args.jobs.now c.args.receipts.now c.args.workers c.in_ok-claims.claims.count c.in_ok-claims.claims.places.items c.if-receipts-jobs.false
    c.in_ok-claims.ensures.fit c.in_ok-claims.ensures.end c.in_default.ensures)

pub returns-then-receipts-jobs-clause-fault : goal.returns-then-receipts-jobs-clause-fault
returns-then-receipts-jobs-clause-fault g c = λ e. c.if-receipts-jobs.true (counted_back c.args.receipts.now c.args.jobs.now e)

pub returns-in_err-clone-clause-fault : goal.returns-in_err-clone-clause-fault
returns-in_err-clone-clause-fault g c =
    lacking c.args.port.now (map work_of c.args.jobs.now) (map received_of c.args.receipts.now) c.args.workers c.from_residual.result c.from_residual.ensures.1
    (counted c.args.receipts.now c.args.jobs.now c.if-receipts-jobs.false)

pub returns-in_err-claims-clause-fault : goal.returns-in_err-claims-clause-fault
returns-in_err-claims-clause-fault g c =
    lacking c.args.port.now (map work_of c.args.jobs.now) (map received_of c.args.receipts.now) c.args.workers c.from_residual-in_err-claims.result
    c.from_residual-in_err-claims.ensures.1 (counted c.args.receipts.now c.args.jobs.now c.if-receipts-jobs.false)

pub returns-in_err-holding-clause-fault : goal.returns-in_err-holding-clause-fault
returns-in_err-holding-clause-fault g c =
    lacking c.args.port.now (map work_of c.args.jobs.now) (map received_of c.args.receipts.now) c.args.workers c.from_residual-in_err-holding.result
    c.from_residual-in_err-holding.ensures.1 (counted c.args.receipts.now c.args.jobs.now c.if-receipts-jobs.false)

pub returns-in-Some-clause-fault : goal.returns-in-Some-clause-fault
returns-in-Some-clause-fault g c = (counted c.args.receipts.now c.args.jobs.now c.if-receipts-jobs.false, c.in-Some.ensures)

pub returns-in-Some-unclaimed-clause-fault : goal.returns-in-Some-unclaimed-clause-fault
returns-in-Some-unclaimed-clause-fault g c =
    (counted c.args.receipts.now c.args.jobs.now c.if-receipts-jobs.false, c.in_default.ensures, c.in-Some-unclaimed.ensures)

pub returns-clause-ok : goal.returns-clause-ok
returns-clause-ok g c = record {
  count = counted c.args.receipts.now c.args.jobs.now c.if-receipts-jobs.false;
  each = c.in_default.ensures;
  no_more = c.in-None.ensures;
}
