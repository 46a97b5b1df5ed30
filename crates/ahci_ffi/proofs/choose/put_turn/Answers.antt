use Rattle.std.proofs.Common.{ℕ, List, subst, ◌∙◌, arith}
use Rattle.std.proofs.lemmas.List.{append-nil}
use Rattle.ahci_ffi.specs.Choosing.{is_turn}
use Rattle.ahci_ffi.specs.Fises.{PutsAll}
use Rattle.ahci_ffi.proofs.choose.put_turn.Goals as goal

pub returns : goal.returns
returns c =
    let P : List ℕ → Type 0 = λ tags. PutsAll tags c.put.result c.args.tags.now c.put.new.out c.args.len.now c.put.new.len in
    is_turn c.turn_of-turn.result.items (omega arith) c.turn_of-turn.ensures (subst P (append-nil c.as_slice.result.now ∙ c.as_slice.ensures.value) c.put.ensures)
