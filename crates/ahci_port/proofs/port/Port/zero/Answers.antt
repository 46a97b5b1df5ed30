use Rattle.std.proofs.Common.{◌∙◌, ap, subst, sym, arith}
use Rattle.ncq_journal.specs.Image.{IsZeroedOver}
use Rattle.ahci_port.specs.Faults.{zero_refusal}
use Rattle.ahci_port.specs.Slots.{view_of}
use Rattle.ahci_port.proofs.IssuingLemmas.{keeps_reserved}
use Rattle.ahci_port.proofs.TrimmingLemmas.{vacant_all}
use Rattle.ahci_port.proofs.ZeroingLemmas.{keeps_zero, zero_may}
use Rattle.ahci_port.proofs.port.Port.zero.Goals as goal

pub invariant_of-self : goal.invariant_of-self
invariant_of-self g c =
    let i = c.self.inside in
    rw (c.in_err-zero.ensures.state, c.in_err-zero.ensures.err, c.in_err-zero.ensures.journal)
    (keeps_reserved i.disk.starting i.disk i.registers i.slots.items i.headers i.journal.past i.journal.room c.zero.new.self.reserved c.self.invariant c.in_err-zero.ensures.held)

pub invariant_of-self-2 : goal.invariant_of-self-2
invariant_of-self-2 g c =
    let i = c.self.inside in
    let m = zero_may (view_of i.disk.starting i.disk i.registers i.unqueued.sent i.area i.slots.items i.journal) c.args.lba c.args.sectors
    (ap (λ p. zero_refusal p c.args.lba c.args.sectors) c.self.view_is ∙ sym c.zero_fault.ensures ∙ c.in_default.is) in
    rw (c.in_ok-zero.ensures.state, c.push_reserved.ensures.past, c.in_ok-zero.ensures.room.past_same)
    (keeps_zero i.disk.starting i.disk i.registers i.slots.items i.headers i.journal.past i.journal.room c.push_reserved.new.self.room c.zero.new.self.image c.zero.new.self.reserved
    c.args.lba c.args.sectors c.self.invariant (vacant_all i.slots.items m.vacant) m.lie c.in_ok-zero.ensures.len
    (subst (λ n. IsZeroedOver c.args.lba n i.disk.image c.zero.new.self.image) c.from.ensures c.in_ok-zero.ensures.ok)
    (let a = c.in_ok-zero.ensures.room.room_is in let b = c.push_reserved.ensures.room in omega arith))
