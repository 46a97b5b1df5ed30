use Rattle.hba_regs.proofs.EventLemmas.{down_without, stays_gone}
use Rattle.hba_regs.proofs.laws.no_write_finds_an_unplugged_device.Goals as goal

pub returns-clause-down : goal.returns-clause-down
returns-clause-down c = down_without c.args.regs.now.port.link c.args.regs.now.port.present c.keeps_its_rules.ensures.port.present c.requires

pub returns-clause-absent : goal.returns-clause-absent
returns-clause-absent c =
    let p = c.args.regs.now.port in
    (stays_gone c.args.regs.now c.args.value c.args.register (c.requires, down_without p.link p.present c.keeps_its_rules.ensures.port.present c.requires)).0

pub returns-clause-stays : goal.returns-clause-stays
returns-clause-stays c =
    let p = c.args.regs.now.port in
    (stays_gone c.args.regs.now c.args.value c.args.register (c.requires, down_without p.link p.present c.keeps_its_rules.ensures.port.present c.requires)).1
