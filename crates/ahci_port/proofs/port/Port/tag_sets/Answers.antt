use Rattle.std.proofs.Common.{◌≡◌, ℕ, ap, ◌∙◌, arith}
use Rattle.ncq_journal.specs.Phase.{phase}
use Rattle.ncq_journal.proofs.SetLemmas.{among, among_all}
use Rattle.ahci_port.specs.Faults.{is_issued, is_accepted, is_held}
use Rattle.ahci_port.proofs.port.Port.tag_sets.Goals as goal

pub returns-clause-issued : goal.returns-clause-issued
returns-clause-issued g c =
    let p = λ (t : ℕ). is_issued (phase c.args.self.now.past t) in
    let all : c.loop-tag.tag ≡ 32 = omega arith in
    c.loop-tag.invariant.issued ∙ ap (among p) all ∙ among_all p

pub returns-clause-accepted : goal.returns-clause-accepted
returns-clause-accepted g c =
    let p = λ (t : ℕ). is_accepted (phase c.args.self.now.past t) in
    let all : c.loop-tag.tag ≡ 32 = omega arith in
    c.loop-tag.invariant.accepted ∙ ap (among p) all ∙ among_all p

pub returns-clause-held : goal.returns-clause-held
returns-clause-held g c =
    let p = λ (t : ℕ). is_held (phase c.args.self.now.past t) in
    let all : c.loop-tag.tag ≡ 32 = omega arith in
    c.loop-tag.invariant.held ∙ ap (among p) all ∙ among_all p
