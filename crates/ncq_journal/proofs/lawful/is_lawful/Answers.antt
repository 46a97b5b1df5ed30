use Rattle.std.proofs.Common.{IsTrue, false, subst, ◌≡◌, arith}
use Rattle.ncq_journal.proofs.LawfulLemmas.{allowed_at}
use Rattle.ncq_journal.proofs.lawful.is_lawful.Goals as goal

pub returns-then-not-is_allowed-clause-lawful : goal.returns-then-not-is_allowed-clause-lawful
returns-then-not-is_allowed-clause-lawful g c = (
  λ e. absurd (cc),
  λ h. let a = allowed_at _ _ c.args.events.now c.loop-number.number c.index-events-number.result (omega arith) c.index-events-number.is h in
      let refused : c.is_allowed.result ≡ false = c.if-not-is_allowed.true in
      subst IsTrue refused (c.is_allowed.ensures.1 a),
)
