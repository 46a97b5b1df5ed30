-- A PRDT has 32 entries at most, and its pieces end within the window.
use Rattle.std.proofs.Common.{◌≡◌, ◌∙◌, length, ap, arith}
use Rattle.std.proofs.lemmas.List.FromFn.{length-map-range_with_len}
use Rattle.ahci_table.specs.Header.{header_of}
use Rattle.ahci_table.specs.Prdt.{piece_of, entry_of}
use Rattle.ahci_table.specs.Window.{base}
use Rattle.ahci_table.proofs.WindowLemmas.{pieces_inside}
use Rattle.ahci_table.proofs.window.Window.text_in.Goals as goal

pub joined-requires : goal.joined-requires
joined-requires g c =
    let own : c.self.inside.bytes.items ≡ c.args.self.now.bytes = ap (λ w. w.bytes) c.self.view_is in
    record { inside = rw (c.requires.list, c.deref.ensures.value, own) (pieces_inside c.args.self.now c.requires.fit.listed.entries) }

pub total-requires : goal.total-requires
total-requires g c =
    let w = c.args.self.now in
    let most = c.requires.fit.header.most in
    let len : length c.args.list.now ≡ (header_of w).prdtl = ap length c.requires.list ∙ length-map-range_with_len (λ i. piece_of (base w.tag) (entry_of w i)) 0 (header_of w).prdtl in
    omega arith
