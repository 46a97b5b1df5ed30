use Rattle.std.proofs.Common.{◌≡◌, ◌∙◌, ℕ, None, ap, sym, is_some}
use Rattle.std.specs.List.{list_any}
use Rattle.ahci_port.specs.Keeping.{slot_at}
use Rattle.ahci_port.proofs.HistoryLemmas.{headline_of_both}
use Rattle.ahci_port.proofs.TrimmingLemmas.{all_free, goes_on, keeps_trim, trim_may, vacant_all}
use Rattle.ahci_port.proofs.port.Port.trim.Goals as goal
use Rattle.ahci_port.proofs.port.Port.trim.Goals.{After-hand_out}

-- what holds once the journal is handed out: no slot is owned
vacant : (g : _) (c : After-hand_out g) → (tag : ℕ) → slot_at c.self.inside.slots.items tag ≡ None
vacant g c = vacant_all c.self.inside.slots.items (ap (λ p. list_any is_some p.windows) c.self.view_is ∙ trim_may c.args.self.now (sym c.trim_fault.ensures ∙ c.in_default.is))

pub invariant_of-self : goal.invariant_of-self
invariant_of-self g c =
    let i = c.self.inside in
    rw (c.keep.ensures, c.hand_out.ensures.past, c.hand_out.ensures.room)
    (keeps_trim i.disk.starting i.disk i.registers i.slots.items i.headers i.journal.past i.journal.room c.keep.new.self.reserved c.self.invariant (vacant g c))

pub returns-clause-free : goal.returns-clause-free
returns-clause-free g c =
    let i = c.self.inside in
    rw (← c.self.view_is)
    (all_free i.disk.starting i.disk i.registers i.slots.items i.headers i.journal.past i.journal.room c.self.invariant (vacant g c))

pub returns-clause-goes_on : goal.returns-clause-goes_on
returns-clause-goes_on g c =
    let i = c.self.inside in
    let free = all_free i.disk.starting i.disk i.registers i.slots.items i.headers i.journal.past i.journal.room c.self.invariant (vacant g c) in
    rw (← c.self.view_is, c.keep.ensures)
    (record {
      sectors = goes_on i.disk.starting i.disk i.registers i.slots.items i.headers i.journal.past i.journal.room c.self.invariant free;
      headline = λ port begins deep h. headline_of_both i.disk.starting i.disk.image i.disk.depth i.journal.first i.journal.past port c.self.invariant.shape.same_size c.self.invariant.shape.shallow
          c.self.invariant.lawful free c.self.invariant.sectors begins deep h;
    })
