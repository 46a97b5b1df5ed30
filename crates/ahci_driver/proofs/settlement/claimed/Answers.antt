use Rattle.std.proofs.Common.{◌≡◌, ◌+◌, ◌-◌, ◌∙◌, Some, ap, length, map, set, sym, subst, arith}
use Rattle.std.proofs.lemmas.List.{length-map}
use Rattle.std.specs.List.{slice_get}
use Rattle.std.proofs.lemmas.Bool.{true≢false}
use Rattle.ncq_journal.proofs.HistoryLemmas.{length_history}
use Rattle.ncq_journal.specs.Work.{work_of}
use Rattle.ahci_driver.specs.Received.{received_of}
use Rattle.ahci_driver.specs.Settled.{AreClaimed, AreFit}
use Rattle.ahci_driver.proofs.SettlingLemmas.{IsWithin, fit_more, fit_within, mapped, none_fit}
use Rattle.ahci_driver.proofs.settlement.claimed.Goals as goal
use Rattle.ahci_driver.proofs.settlement.claimed.Goals.{After-index-receipts-index}

-- the receipt at the index, which may be that of its job
at : (g : _) (c : After-index-receipts-index g)
    → slice_get (map received_of c.args.receipts.now) c.loop-index.index ≡ Some (received_of c.index-receipts-index.result)
at g c = mapped received_of c.args.receipts.now c.loop-index.index c.index-receipts-index.result (omega arith) c.index-receipts-index.is

here : (g : _) (c : After-index-receipts-index g)
    → IsWithin c.args.port.now (map received_of c.args.receipts.now) c.loop-index.index (received_of c.index-receipts-index.result)
here g c =
    fit_within c.args.port.now (map work_of c.args.jobs.now) (map received_of c.args.receipts.now) c.args.workers c.loop-index.index (received_of c.index-receipts-index.result)
    (c.fits.ensures.0 c.if-not-fits.false) (at g c)

-- the number that the code counts from
first : (g : _) (c : After-index-receipts-index g) → c.first-first.result ≡ c.args.port.now.first
first g c = c.first-first.ensures.first ∙ c.journal-journal.ensures.first

pub loop-index-init : goal.loop-index-init
loop-index-init g c =
    none_fit c.args.port.now (map work_of c.args.jobs.now) (map received_of c.args.receipts.now) c.args.workers (length c.entries.result.now) c.in_ok-places.places.items
    (sym (length_history c.entries.result.now) ∙ ap length (c.entries.ensures ∙ c.journal-journal.ensures.past)) c.in_ok-places.ensures

pub fits-requires-clause-job : goal.fits-requires-clause-job
fits-requires-clause-job g c = c.loop-index-test.true

pub fits-requires-clause-receipt : goal.fits-requires-clause-receipt
fits-requires-clause-receipt g c = let same = c.requires in let low = c.loop-index-test.true in omega arith

pub fits-requires-clause-claims : goal.fits-requires-clause-claims
fits-requires-clause-claims g c =
    subst (AreClaimed (map received_of c.args.receipts.now) c.args.port.now.first (length c.args.port.now.past) c.loop-index.index) (sym c.deref.ensures.value)
    c.loop-index.invariant.claimed

pub bounds-receipts-index : goal.bounds-receipts-index
bounds-receipts-index g c = let same = c.requires in let low = c.loop-index-test.true in omega arith

pub returns-then-not-fits-clause-fit : goal.returns-then-not-fits-clause-fit
returns-then-not-fits-clause-fit g c = c.loop-index.invariant

pub returns-then-not-fits-clause-end : goal.returns-then-not-fits-clause-end
returns-then-not-fits-clause-end g c = λ low fits. true≢false (sym (c.fits.ensures.1 fits) ∙ c.if-not-fits.true)

pub overflow_sub-receipt : goal.overflow_sub-receipt
overflow_sub-receipt g c =
    let p = (goal.at.overflow_sub-receipt g c).After-index-receipts-index in
    let low = (here g p).low in
    let from = first g p in omega arith

pub claim_of-requires : goal.claim_of-requires
claim_of-requires g c =
    let p = (goal.at.claim_of-requires g c).After-index-receipts-index in
    let low = (here g p).entry in
    let from = first g p in omega arith

pub note-requires : goal.note-requires
note-requires g c =
    let p = (goal.at.note-requires g c).After-index-receipts-index in
    let from = first g p in
    let count = c.loop-index.invariant.claimed.count in
    let low = (here g p).low in
    let high = (here g p).high in omega arith

pub loop-index-preserved : goal.loop-index-preserved
loop-index-preserved g c =
    let p = (goal.at.loop-index-preserved g c).After-index-receipts-index in
    let jobs = map work_of c.args.jobs.now in
    let receipts = map received_of c.args.receipts.now in
    let place = c.index-receipts-index.result.reply.number - c.first-first.result in
    let count = length-map c.args.jobs.now work_of in
    subst (AreFit c.args.port.now jobs receipts c.args.workers (c.loop-index.index + 1)) (sym c.note.ensures)
    (subst (λ claim. AreFit c.args.port.now jobs receipts c.args.workers (c.loop-index.index + 1) (set c.loop-index.places.items place (Some claim))) (sym c.claim_of.ensures)
    (fit_more c.args.port.now jobs receipts c.args.workers c.loop-index.index c.first-first.result (received_of c.index-receipts-index.result) c.loop-index.places.items
    (omega arith) (at g p) (first g p) (c.fits.ensures.0 c.if-not-fits.false) c.loop-index.invariant))

pub returns-clause-fit : goal.returns-clause-fit
returns-clause-fit g c =
    let within = c.loop-index.invariant.within in
    let count = length-map c.args.jobs.now work_of in
    let end : c.loop-index.index ≡ length c.args.jobs.now = omega arith in
    subst (λ n. AreFit c.args.port.now (map work_of c.args.jobs.now) (map received_of c.args.receipts.now) c.args.workers n c.loop-index.places.items) end c.loop-index.invariant

pub returns-clause-end : goal.returns-clause-end
returns-clause-end g c = λ low. absurd (let none : ⊥ = omega arith in none)
