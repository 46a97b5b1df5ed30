use Rattle.std.proofs.Common.{◌∙◌, None, cond, ap, sym, arith}
use Rattle.ahci_port.specs.Carrying.{carried}
use Rattle.ahci_port.specs.Faults.{plain_refusal}
use Rattle.ahci_port.specs.Slots.{view_of}
use Rattle.ahci_port.specs.Standing.{last_failure}
use Rattle.ahci_port.proofs.IssuingLemmas.{keeps_unqueued}
use Rattle.ahci_port.proofs.QuietLemmas.{disk_same, idle_disk, passes, plain_may, slot_0_waits}
use Rattle.ahci_port.proofs.RegisterLemmas.{tracks_carried}
use Rattle.ahci_port.proofs.port.Port.send_unqueued.Goals as goal

pub carry_out-requires : goal.carry_out-requires
carry_out-requires g c =
    let i = c.self.inside in
    let past = i.journal.past in
    let m = plain_may (view_of i.disk.starting i.disk i.registers i.unqueued.sent i.area i.slots.items i.journal) (ap plain_refusal c.self.view_is ∙ sym c.plain_fault.ensures ∙ c.in_default.is) in
    passes c.args.plain i.disk c.requires (c.self.invariant.error_is ∙ ap (λ b. cond b (last_failure past) None) m.0) (idle_disk _ _ _ _ _ _ _ c.self.invariant m.1)

pub invariant_of-self-2 : goal.invariant_of-self-2
invariant_of-self-2 g c =
    let i = c.self.inside in
    let past = i.journal.past in
    let m = plain_may (view_of i.disk.starting i.disk i.registers i.unqueued.sent i.area i.slots.items i.journal) (ap plain_refusal c.self.view_is ∙ sym c.plain_fault.ensures ∙ c.in_default.is) in
    let sent = c.carry_out.ensures in
    rw (sent.headers, sent.disk, disk_same c.args.plain i.disk c.requires, sent.registers, c.push_reserved.ensures.past, c.in_ok-reserve.ensures.past)
    (keeps_unqueued i.disk.starting i.disk i.registers (carried c.args.plain i.registers) i.slots.items i.headers past i.journal.room c.push_reserved.new.self.room c.args.plain c.self.invariant (c.requires, m)
    (tracks_carried c.args.plain i.disk.depth past i.registers c.self.invariant.tracks c.self.invariant.shape.some_slot c.self.invariant.shape.shallow (slot_0_waits past m.0 m.1))
    (let a = c.in_ok-reserve.ensures.room in let b = c.push_reserved.ensures.room in omega arith))
