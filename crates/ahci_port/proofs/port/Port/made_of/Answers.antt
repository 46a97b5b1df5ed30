use Rattle.ahci_port.proofs.ReadingLemmas.{keeps_new, same_journal, view_new}
use Rattle.ahci_port.proofs.port.Port.made_of.Goals as goal

pub invariant_of-result : goal.invariant_of-result
invariant_of-result g c = rw (c.requires.new, c.started.ensures, c.in_ok-slots.ensures, c.starting_at-journal.ensures.past, c.starting_at-journal.ensures.room)
    (keeps_new c.args.disk.image c.args.disk.grows c.args.disk.reserved c.args.depth c.no_headers.result c.requires.disk c.no_headers.ensures)

pub returns : goal.returns
returns g c =
    let j = c.starting_at-journal.ensures in
    rw (c.new.ensures, c.requires.new, c.started.ensures, c.in_ok-slots.ensures, c.empty_area.ensures)
    (view_new c.args.first c.args.disk.image c.args.disk.grows c.args.disk.reserved c.args.depth c.starting_at-journal.result (same_journal _ _ _ _ _ j.first j.past j.room j.held))
