-- The pieces end within the window.
use Rattle.std.proofs.Common.{◌≡◌, ap}
use Rattle.ahci_table.proofs.WindowLemmas.{pieces_inside}
use Rattle.ahci_table.proofs.window.Window.part_in.Goals as goal

pub part-requires-clause-inside : goal.part-requires-clause-inside
part-requires-clause-inside g c =
    let own : c.self.inside.bytes.items ≡ c.args.self.now.bytes = ap (λ w. w.bytes) c.self.view_is in
    rw (c.requires.list, c.deref.ensures.value, own) (pieces_inside c.args.self.now c.requires.fit.listed.entries)
