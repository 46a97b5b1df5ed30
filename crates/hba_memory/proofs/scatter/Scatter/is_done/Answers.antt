-- All is written exactly if no byte or no entry is left.
use Rattle.std.proofs.Common.{sym, ◌∙◌, ◌≡◌, ◌-◌, [], drop, length, arith}
use Rattle.std.proofs.lemmas.Bool.{eq-eqb, eqb-true}
use Rattle.std.proofs.lemmas.List.{length-drop}
use Rattle.hba_memory.proofs.RunLemmas.{last_put, placed_none, placed_over}
use Rattle.hba_memory.proofs.scatter.Scatter.is_done.Goals as goal

pub returns-then-self-len : goal.returns-then-self-len
returns-then-self-len g c =
    let s = c.self.inside in
    let len : length (drop s.done s.bytes.items) ≡ length s.bytes.items - s.done = length-drop s.done s.bytes.items in
    let none : c.args.self.now ≡ [] = sym c.self.view_is ∙ placed_none (drop s.next s.list.items) (drop s.done s.bytes.items) (omega arith) in
    ((λ h. none), (λ h. eq-eqb s.done c.len.result c.if-self-len.true))

pub returns-else-self-len : goal.returns-else-self-len
returns-else-self-len g c =
    let s = c.self.inside in
    let len : length (drop s.done s.bytes.items) ≡ length s.bytes.items - s.done = length-drop s.done s.bytes.items in (
      (λ h. sym c.self.view_is ∙ placed_over s.list.items s.next (drop s.done s.bytes.items) (let e = eqb-true s.next c.len-else-self-len.result h in omega arith)),
      (λ h. eq-eqb s.next c.len-else-self-len.result
          (last_put s.list.items s.next (drop s.done s.bytes.items) c.len-else-self-len.result (omega arith) c.self.invariant.0 (λ z. c.if-self-len.false (let w = c.self.invariant.1 in omega arith)) (c.self.view_is ∙ h))),
    )
