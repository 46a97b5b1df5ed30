-- All is read exactly if no byte or no entry is left.
use Rattle.std.proofs.Common.{ap, sym, ◌∙◌, ◌≡◌, [], drop, arith}
use Rattle.std.proofs.lemmas.Bool.{eq-eqb, eqb-true}
use Rattle.hba_memory.proofs.RunLemmas.{last_entry, runs_none, runs_over}
use Rattle.hba_memory.proofs.gather.Gather.is_done.Goals as goal

pub returns-then-self-eq0 : goal.returns-then-self-eq0
returns-then-self-eq0 g c =
    let none : c.args.self.now.runs ≡ [] = sym (ap (λ v. v.runs) c.self.view_is) ∙ runs_none (drop c.self.inside.next c.self.inside.list.items) c.self.inside.left c.if-self-eq0.true in
    ((λ h. none), (λ h. eq-eqb c.self.inside.left 0 c.if-self-eq0.true))

pub returns-else-self-eq0 : goal.returns-else-self-eq0
returns-else-self-eq0 g c =
    let same = ap (λ v. v.runs) c.self.view_is in (
      (λ h. sym same ∙ runs_over c.self.inside.list.items c.self.inside.next c.self.inside.left (let e = eqb-true c.self.inside.next c.len.result h in omega arith)),
      (λ h. eq-eqb c.self.inside.next c.len.result
          (last_entry c.self.inside.list.items c.self.inside.next c.self.inside.left c.len.result (omega arith) c.self.invariant.0 (λ z. c.if-self-eq0.false z) (same ∙ h))),
    )
