use Rattle.std.proofs.Common.{◌≡◌, ◌∙◌, ◌++◌, ℕ, None, length, take, drop, replicate, ap, sym, subst}
use Rattle.std.proofs.lemmas.List.{length-replicate}
use Rattle.ncq_core.specs.DiskState.{DiskState, IsDisk, disk_over}
use Rattle.ncq_journal.specs.Image.{sector_at}
use Rattle.ncq_journal.specs.Sector.{sector}
use Rattle.ahci_port.specs.Registers.{started}
use Rattle.ahci_port.specs.Steps.{Follows}
use Rattle.ahci_port.proofs.LogLemmas.{whole_write}
use Rattle.ahci_port.proofs.ReadingLemmas.{keeps_new, same_journal, view_new}
use Rattle.ahci_port.proofs.ResettingLemmas.{follows}
use Rattle.ahci_port.proofs.port.Port.reset.Goals as goal
use Rattle.ahci_port.proofs.port.Port.reset.Goals.{After-hand_out}

-- what holds once the journal is handed out: the disk has kept its image, the registers are those of a new port, and no slot is
-- owned
disk : (g : _) (c : After-hand_out g) → c.keep.new.self ≡ disk_over c.self.inside.disk.image c.self.inside.disk.image c.self.inside.disk.grows c.keep.new.self.reserved c.self.inside.disk.depth
disk g c = c.keep.ensures ∙ ap (λ (d : DiskState). let e : DiskState = record d { starting = d.image; reserved = c.keep.new.self.reserved } in e) c.reset.ensures

regs : (g : _) (c : After-hand_out g) → c.begin_again.new.registers ≡ started c.self.inside.disk.depth
regs g c = c.begin_again.ensures.registers ∙ ap started (c.depth.ensures.depth ∙ ap (λ d. d.depth) (disk g c))

slots : (g : _) (c : After-hand_out g)
    → take c.self.inside.slots.len (c.clear.new.slots ++ drop (length c.clear.new.slots) c.self.inside.slots.items) ≡ replicate c.self.inside.disk.depth None
slots g c =
    let i = c.self.inside in
    let size = ap length c.deref_mut.ensures.value in
    whole_write i.slots.items c.clear.new.slots i.slots.len (sym c.deref_mut.ensures.len ∙ size)
    (ap length c.clear.ensures ∙ length-replicate (length c.deref_mut.result.now) None ∙ size)
    ∙ c.clear.ensures ∙ ap (λ n. replicate n None) (size ∙ c.self.invariant.shape.slot_count)

sectors : (g : _) (c : After-hand_out g) (s : ℕ) → sector_at c.args.self.now.image s ≡ sector c.args.self.now.starting c.args.self.now.past s
sectors g c = rw (← c.self.view_is) c.self.invariant.sectors

pub invariant_of-self : goal.invariant_of-self
invariant_of-self g c =
    let d = c.self.inside.disk in
    rw (disk g c, slots g c, regs g c, c.hand_out.ensures.past, c.hand_out.ensures.room)
    (keeps_new d.image d.grows c.keep.new.self.reserved d.depth c.begin_again.new.headers (subst IsDisk (disk g c) c.depth.ensures.disk) c.begin_again.ensures.headers)

pub returns-clause-reset : goal.returns-clause-reset
returns-clause-reset g c =
    let d = c.self.inside.disk in
    let j = c.hand_out.ensures in
    rw (← c.self.view_is, disk g c, slots g c, regs g c, c.begin_again.ensures.area, c.begin_again.ensures.sent)
    (view_new _ d.image d.grows c.keep.new.self.reserved d.depth c.hand_out.new.self (same_journal _ _ _ _ _ j.first j.past j.room j.held))

pub returns-clause-dropped : goal.returns-clause-dropped
returns-clause-dropped g c = rw (← c.self.view_is, disk g c) c.self.invariant.sectors

pub returns-clause-goes_on : goal.returns-clause-goes_on
returns-clause-goes_on g c = subst (Follows c.args.self.now) (sym (returns-clause-reset g c)) (follows c.args.self.now (sectors g c))
