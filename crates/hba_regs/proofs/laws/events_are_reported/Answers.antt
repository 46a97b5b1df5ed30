use Rattle.hba_regs.proofs.EventLemmas.{lost_reports, plugged_reports, unknown_reports}
use Rattle.hba_regs.proofs.laws.events_are_reported.Goals as goal

pub returns-clause-lost : goal.returns-clause-lost
returns-clause-lost c =
    let p = c.args.regs.now.port in
    let k = c.keeps_its_rules.ensures in
    λ e. lost_reports p p.link e k.words.is k.words.serr k.port.is

pub returns-clause-plugged : goal.returns-clause-plugged
returns-clause-plugged c =
    let k = c.keeps_its_rules.ensures in
    λ e. plugged_reports c.args.regs.now.port e k.words.is k.words.serr k.port.is

pub returns-clause-unknown : goal.returns-clause-unknown
returns-clause-unknown c =
    let k = c.keeps_its_rules.ensures in
    λ e. unknown_reports c.args.regs.now.port e k.words.is k.words.serr k.port.is
