-- The pieces end within the window, and the new bytes make a window that is fit.
use Rattle.std.proofs.Common.{◌≡◌, List, ℕ, ap, ◌∙◌}
use Rattle.std.proofs.lemmas.List.{with_items_is}
use Rattle.ahci_table.specs.Window.{WindowState}
use Rattle.ahci_table.proofs.WindowLemmas.{pieces_inside, scattered_in, with_bytes}
use Rattle.ahci_table.proofs.window.Window.scatter_in.Goals as goal

pub scatter-requires-clause-inside : goal.scatter-requires-clause-inside
scatter-requires-clause-inside g c =
    let own : c.self.inside.bytes.items ≡ c.args.self.now.bytes = ap (λ w. w.bytes) c.self.view_is in
    rw (c.requires.list, c.deref_mut.ensures.value, own) (pieces_inside c.args.self.now c.requires.fit.listed.entries)

-- the new window is the old one with the new bytes
abbrev made : ℕ → List ℕ → List ℕ → WindowState
made tag header bytes = record { tag = tag; header = header; bytes = bytes }

window_is : (tag : ℕ) (header items bytes after : List ℕ) (w : WindowState) → made tag header items ≡ w → after ≡ bytes → made tag header after ≡ with_bytes w bytes
window_is tag header items bytes after w is same = ap (made tag header) same ∙ ap (λ v. with_bytes v bytes) is

pub returns-clause-scattered : goal.returns-clause-scattered
returns-clause-scattered g c =
    let after = with_items_is c.self.inside.bytes c.scatter.new.bytes (c.scatter.ensures.len ∙ c.deref_mut.ensures.len) in
    (scattered_in c.args.self.now _ c.args.offset c.args.from.now _ c.scatter.new.bytes _ c.requires.list (c.deref_mut.ensures.value ∙ ap (λ w. w.bytes) c.self.view_is)
    (window_is c.self.inside.tag c.self.inside.header c.self.inside.bytes.items c.scatter.new.bytes _ c.args.self.now c.self.view_is after)
    c.requires.fit c.scatter.ensures.len c.scatter.ensures.text c.scatter.ensures.others).0

pub returns-clause-fit : goal.returns-clause-fit
returns-clause-fit g c =
    let after = with_items_is c.self.inside.bytes c.scatter.new.bytes (c.scatter.ensures.len ∙ c.deref_mut.ensures.len) in
    (scattered_in c.args.self.now _ c.args.offset c.args.from.now _ c.scatter.new.bytes _ c.requires.list (c.deref_mut.ensures.value ∙ ap (λ w. w.bytes) c.self.view_is)
    (window_is c.self.inside.tag c.self.inside.header c.self.inside.bytes.items c.scatter.new.bytes _ c.args.self.now c.self.view_is after)
    c.requires.fit c.scatter.ensures.len c.scatter.ensures.text c.scatter.ensures.others).1
