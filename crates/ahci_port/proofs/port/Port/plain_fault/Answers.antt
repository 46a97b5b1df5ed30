use Rattle.std.proofs.Common.{◌≡◌, ◌∙◌, true, false, ap, sym, refl}
use Rattle.ncq_journal.specs.Halted.{halted, busy}
use Rattle.ahci_port.proofs.QuietLemmas.{quiet_word, busy_word}
use Rattle.ahci_port.proofs.port.Port.plain_fault.Goals as goal

pub returns-then-sact-ne0 : goal.returns-then-sact-ne0
returns-then-sact-ne0 g c =
    let past = c.self.inside.journal.past in
    let calm : halted past ≡ false = ap (λ p. halted p.past) c.self.view_is ∙ sym c.halted.ensures ∙ c.if-halted.false in
    let many : busy past ≡ true = busy_word c.sact.result past (c.sact.ensures ∙ c.self.invariant.tracks.sact_is) c.sact.type_inv calm c.if-sact-ne0.true in
    rw (← c.self.view_is) (rw (calm, many) refl)

pub returns : goal.returns
returns g c =
    let past = c.self.inside.journal.past in
    let calm : halted past ≡ false = ap (λ p. halted p.past) c.self.view_is ∙ sym c.halted.ensures ∙ c.if-halted.false in
    let still : busy past ≡ false = quiet_word c.sact.result past (c.sact.ensures ∙ c.self.invariant.tracks.sact_is) c.if-sact-ne0.false in
    rw (← c.self.view_is) (rw (calm, still) refl)
