use Rattle.std.proofs.Common.{◌≡◌, ◌∙◌, ap, is_some, length, map, sym, take, arith}
use Rattle.std.proofs.lemmas.Bool.{true≢false}
use Rattle.ahci_driver.specs.Received.{is_named, received_of}
use Rattle.ahci_driver.proofs.SettlingLemmas.{issued_from, issued_within, read_claim}
use Rattle.ahci_driver.proofs.settlement.is_fit.Goals as goal
use Rattle.ahci_driver.proofs.settlement.is_fit.Goals.{After-is_some}

-- the number that the code counts from
first : (g : _) (c : After-is_some g) → c.first-first.result ≡ c.args.port.now.first
first g c = c.first-first.ensures.first ∙ c.journal.ensures.first

-- an earlier receipt has the number where something is claimed at its place
named : (g : _) (c : After-is_some g) → is_named (take c.args.index (map received_of c.args.receipts.now)) c.args.receipt.now.reply.number ≡ c.is_some.result
named g c =
    let number = c.args.receipt.now.reply.number in
    let issued = ap is_some (c.is_issued.ensures.0 c.if-not-is_issued.false) in
    read_claim (map received_of c.args.receipts.now) c.args.port.now.first (length c.args.port.now.past) c.args.index number c.first-first.result
    c.args.claims.now c.index-claims-number.result c.requires.claims (issued_from c.args.port.now number issued) (issued_within c.args.port.now number issued)
    (first g c) c.index-claims-number.is ∙ sym c.is_some.ensures

pub overflow_sub-number : goal.overflow_sub-number
overflow_sub-number g c =
    let low = issued_from c.args.port.now c.args.receipt.now.reply.number (ap is_some (c.is_issued.ensures.0 c.if-not-is_issued.false)) in
    let from = c.first-first.ensures.first ∙ c.journal.ensures.first in omega arith

pub bounds-claims-number : goal.bounds-claims-number
bounds-claims-number g c =
    let issued = ap is_some (c.is_issued.ensures.0 c.if-not-is_issued.false) in
    let low = issued_from c.args.port.now c.args.receipt.now.reply.number issued in
    let high = issued_within c.args.port.now c.args.receipt.now.reply.number issued in
    let count = c.requires.claims.count in
    let from = c.first-first.ensures.first ∙ c.journal.ensures.first in omega arith

pub returns-then-not-is_issued : goal.returns-then-not-is_issued
returns-then-not-is_issued g c = (λ t. absurd (true≢false (sym t)), λ f. sym c.if-not-is_issued.true ∙ c.is_issued.ensures.1 f.issued)

pub returns-then-receipt-first : goal.returns-then-receipt-first
returns-then-receipt-first g c = (
  λ t. absurd (true≢false (sym t)),
  λ f. (let low = f.from in let from = c.first-first.ensures.first ∙ c.journal.ensures.first in let high = c.if-receipt-first.true in absurd (omega arith)),
)

pub returns-then-is_some : goal.returns-then-is_some
returns-then-is_some g c = (
  λ t. absurd (true≢false (sym t)),
  λ f. sym f.fresh ∙ named g (goal.at.returns-then-is_some g c).After-is_some ∙ c.if-is_some.true,
)

pub returns : goal.returns
returns g c =
    let p = (goal.at.returns g c).After-is_some in (
      λ t. record {
        issued = c.is_issued.ensures.0 c.if-not-is_issued.false;
        fresh = named g p ∙ c.if-is_some.false;
        in_turn = c.is_in_turn.ensures.0 t;
        from = (let from = first g p in let low = c.if-receipt-first.false in omega arith);
      },
      λ f. c.is_in_turn.ensures.1 f.in_turn,
    )
