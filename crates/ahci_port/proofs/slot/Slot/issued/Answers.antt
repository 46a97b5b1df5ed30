use Rattle.std.proofs.Common.{◌∙◌, ◌^◌, ◌<◌, ◌≤◌, ap, subst}
use Rattle.ncq_journal.specs.Lawful.{most_sectors}
use Rattle.ahci_port.proofs.TakenLemmas.{op_proper}
use Rattle.ahci_port.proofs.slot.Slot.issued.Goals as goal

pub returns-clause-proper : goal.returns-clause-proper
returns-clause-proper g c =
    let same = ap (λ k. k.queued) c.command.view_is ∙ c.requires.queued in
    let invariant = c.command.invariant in
    op_proper c.args.window c.requires.fit (subst (λ q. q.lba < 2 ^ 48) same invariant.1) (subst (λ q. 1 ≤ q.sectors) same invariant.2)
    (subst (λ q. q.sectors ≤ most_sectors) same invariant.3)
