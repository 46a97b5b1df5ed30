use Rattle.std.proofs.Common.{◌≡◌, ◌<◌, ◌∙◌, map, subst, below_more, arith}
use Rattle.std.specs.Prelude.{◌↔◌, IsTrue}
use Rattle.std.proofs.lemmas.List.{length-map}
use Rattle.ncq_journal.specs.Work.{work_of}
use Rattle.ahci_driver.specs.Received.{received_of}
use Rattle.ahci_driver.specs.Settled.{IsRight}
use Rattle.ahci_driver.proofs.SettlingLemmas.{all_right, fit_count, fit_within, held_right, mapped, right_fits}
use Rattle.ahci_driver.proofs.settlement.first_wrong.Goals as goal
use Rattle.ahci_driver.proofs.settlement.first_wrong.Goals.{After-is_held}

-- the receipt at the index is right exactly where the journal bears it out
right : (g : _) (c : After-is_held g)
    → IsTrue c.is_held.result ↔ IsRight c.args.port.now (map work_of c.args.jobs.now) (map received_of c.args.receipts.now) c.args.workers c.loop-index.index
right g c =
    let within = fit_count c.args.jobs.now c.args.claims.now.count c.requires.fit.within in
    held_right c.args.port.now (map work_of c.args.jobs.now) (map received_of c.args.receipts.now) c.args.workers c.args.claims.now.count c.loop-index.index c.first-first.result
    (received_of c.index-receipts-index.result) c.args.claims.now.places.items c.args.holding.now c.is_held.result c.requires.fit c.requires.held c.loop-index-test.true
    (mapped received_of c.args.receipts.now c.loop-index.index c.index-receipts-index.result (omega arith) c.index-receipts-index.is)
    (c.first-first.ensures.first ∙ c.journal.ensures.first) c.is_held.ensures

pub loop-index-init : goal.loop-index-init
loop-index-init g c = λ i low. absurd (let none : ⊥ = omega arith in none)

pub bounds-receipts-index : goal.bounds-receipts-index
bounds-receipts-index g c =
    let within = fit_count c.args.jobs.now c.args.claims.now.count c.requires.fit.within in
    let same = c.requires.counted in
    let low = c.loop-index-test.true in omega arith

pub is_held-requires : goal.is_held-requires
is_held-requires g c =
    let within = fit_count c.args.jobs.now c.args.claims.now.count c.requires.fit.within in
    let here = fit_within c.args.port.now (map work_of c.args.jobs.now) (map received_of c.args.receipts.now) c.args.workers c.loop-index.index (received_of c.index-receipts-index.result)
    (c.requires.fit.fit c.loop-index.index c.loop-index-test.true)
    (mapped received_of c.args.receipts.now c.loop-index.index c.index-receipts-index.result (omega arith) c.index-receipts-index.is) in
    let first : c.first-first.result ≡ c.args.port.now.first = c.first-first.ensures.first ∙ c.journal.ensures.first in
    let low = here.low in omega arith

pub returns-then-not-is_held : goal.returns-then-not-is_held
returns-then-not-is_held g c =
    let within = fit_count c.args.jobs.now c.args.claims.now.count c.requires.fit.within in
    let count = length-map c.args.jobs.now work_of in
    (omega arith, c.loop-index.invariant, λ h. (let t = (right g (goal.at.returns-then-not-is_held g c).After-is_held).1 h in let f = c.if-not-is_held.true in cc))

pub loop-index-preserved : goal.loop-index-preserved
loop-index-preserved g c = below_more _ _ c.loop-index.invariant ((right g (goal.at.loop-index-preserved g c).After-is_held).0 c.if-not-is_held.false)

pub returns-then-claims-jobs : goal.returns-then-claims-jobs
returns-then-claims-jobs g c =
    let end : c.loop-index.index ≡ c.args.claims.now.count = omega arith in
    let count = length-map c.args.jobs.now work_of in (
      omega arith,
      subst (λ n. (i : _) → i < n → IsRight c.args.port.now (map work_of c.args.jobs.now) (map received_of c.args.receipts.now) c.args.workers i) end c.loop-index.invariant,
      λ h. c.requires.end c.if-claims-jobs.true
          (right_fits c.args.port.now (map work_of c.args.jobs.now) (map received_of c.args.receipts.now) c.args.workers c.args.claims.now.count h),
    )

pub returns : goal.returns
returns g c = all_right c.args.port.now c.args.jobs.now (map received_of c.args.receipts.now) c.args.workers c.loop-index.index (omega arith) c.loop-index.invariant
