-- After the last piece all is copied.
use Rattle.std.proofs.Common.{◌≡◌, [], length, drop, ap, sym, ◌∙◌, arith}
use Rattle.std.proofs.lemmas.List.{drop_all}
use Rattle.ahci_table.specs.Text.{joined}
use Rattle.ahci_table.proofs.RunLemmas.{scattered, inside_from, joined-scattered, scattered_outside}
use Rattle.ahci_table.proofs.runs.scatter.Goals as goal

pub returns-clause-text : goal.returns-clause-text
returns-clause-text c =
    let pieces = c.args.pieces.now in
    let none : drop c.loop-piece.piece-index pieces ≡ [] = drop_all c.loop-piece.piece-index pieces (omega arith) in
    let done : c.loop-piece.bytes ≡ scattered pieces c.args.offset c.args.from.now c.args.bytes.now =
    ap (λ ps. scattered ps c.loop-piece.skip c.loop-piece.rest.now c.loop-piece.bytes) (sym none) ∙ c.loop-piece.invariant.1 in
    ap (joined pieces) done
    ∙ joined-scattered pieces c.args.offset c.args.from.now c.args.bytes.now (inside_from (length c.args.bytes.now) pieces c.requires.inside) c.requires.apart c.requires.within

pub returns-clause-others : goal.returns-clause-others
returns-clause-others c =
    let pieces = c.args.pieces.now in
    let none : drop c.loop-piece.piece-index pieces ≡ [] = drop_all c.loop-piece.piece-index pieces (omega arith) in
    let done : c.loop-piece.bytes ≡ scattered pieces c.args.offset c.args.from.now c.args.bytes.now =
    ap (λ ps. scattered ps c.loop-piece.skip c.loop-piece.rest.now c.loop-piece.bytes) (sym none) ∙ c.loop-piece.invariant.1 in
    λ x e. rw done (scattered_outside pieces c.args.offset c.args.from.now c.args.bytes.now x (inside_from (length c.args.bytes.now) pieces c.requires.inside) e)
