-- The bytes after the table are zeros until a write's data are copied in.
use Rattle.std.proofs.Common.{◌≡◌, ◌≤◌, ◌-◌, length, ap, ◌∙◌}
use Rattle.std.proofs.lemmas.List.{with_items_is}
use Rattle.ncq_journal.specs.Work.{work_of}
use Rattle.ahci_table.specs.Piece.{furthest}
use Rattle.ahci_table.specs.Prdt.{entry_place}
use Rattle.ahci_table.specs.Text.{joined}
use Rattle.ahci_table.proofs.BuildLemmas.{furthest_covers, table_fits, length-blank, joined-blank}
use Rattle.ahci_table.proofs.LayingLemmas.{zeros_after}
use Rattle.ahci_table.proofs.RefusalLemmas.{free_from, all_after}
use Rattle.ahci_table.proofs.build.written_over_zeros.Goals as goal

pub zeroed_to-requires : goal.zeroed_to-requires
zeroed_to-requires g c =
    let work = work_of c.args.op.now in
    let ps = c.args.pieces.now in
    let f = free_from work ps c.requires.free in
    let fits : entry_place (length ps) ≤ furthest ps = table_fits (entry_place (length ps)) ps f.has (all_after work ps f) in
    rw (c.requires.table, c.furthest.ensures) fits

pub fill-requires-clause-inside : goal.fill-requires-clause-inside
fill-requires-clause-inside g c =
    let work = work_of c.args.op.now in
    let ps = c.args.pieces.now in
    let f = free_from work ps c.requires.free in
    let blank = c.deref_mut.ensures.value ∙ rw c.furthest.ensures at c.in_ok-bytes.ensures in
    let len : length c.deref_mut.result.now ≡ furthest ps = ap length blank ∙ length-blank c.args.table.items work ps f c.requires.table in
    rw len (furthest_covers ps)

pub fill-requires-clause-zero : goal.fill-requires-clause-zero
fill-requires-clause-zero g c =
    let work = work_of c.args.op.now in
    let ps = c.args.pieces.now in
    let blank = c.deref_mut.ensures.value ∙ rw c.furthest.ensures at c.in_ok-bytes.ensures in
    ap (joined ps) blank ∙ joined-blank c.args.table.items work ps (free_from work ps c.requires.free) c.requires.table

pub returns : goal.returns
returns g c =
    let work = work_of c.args.op.now in
    let ps = c.args.pieces.now in
    let f = free_from work ps c.requires.free in
    let blank = c.deref_mut.ensures.value ∙ rw c.furthest.ensures at c.in_ok-bytes.ensures in
    let after = with_items_is c.in_ok-bytes.bytes c.fill.new.bytes (c.fill.ensures.len ∙ c.deref_mut.ensures.len) in
    let len : length c.fill.new.bytes ≡ furthest ps = c.fill.ensures.len ∙ ap length blank ∙ length-blank c.args.table.items work ps f c.requires.table in
    rw after (record {
      len = len;
      text = c.fill.ensures.text;
      others = λ x e. rw blank at c.fill.ensures.others x e ∙ zeros_after c.args.table.items (furthest ps - length c.args.table.items) x;
    })
