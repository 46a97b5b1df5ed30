-- One run more is read, for which there is room.
use Rattle.std.proofs.Common.{ap, ◌∙◌, ◌+◌, ◌-◌, drop, arith}
use Rattle.hba_memory.specs.Runs.{runs}
use Rattle.hba_memory.proofs.RunLemmas.{Gathers, gathers}
use Rattle.hba_memory.proofs.gather.Gather.supply.Goals as goal

pub unreachable-requires : goal.unreachable-requires
unreachable-requires g c =
    let s : Gathers c.self.inside.list.items c.self.inside.next c.self.inside.left c.args.self.now.runs
    = gathers _ _ _ _ (ap (λ v. v.runs) c.self.view_is) c.self.invariant.0 (λ e. let t = c.is_done.ensures.1 e in cc (t, c.if-is_done.false)) in
    let most = s.most in
    let room = c.self.invariant.1 in
    let full = c.in_default.ensures.full in
    let fits = c.requires in
    omega arith

pub overflow_sub-self : goal.overflow_sub-self
overflow_sub-self g c =
    let s : Gathers c.self.inside.list.items c.self.inside.next c.self.inside.left c.args.self.now.runs
    = gathers _ _ _ _ (ap (λ v. v.runs) c.self.view_is) c.self.invariant.0 (λ e. let t = c.is_done.ensures.1 e in cc (t, c.if-is_done.false)) in
    let most = s.most in
    let fits = c.requires in
    omega arith

pub returns-clause-runs : goal.returns-clause-runs
returns-clause-runs g c =
    let s : Gathers c.self.inside.list.items c.self.inside.next c.self.inside.left c.args.self.now.runs
    = gathers _ _ _ _ (ap (λ v. v.runs) c.self.view_is) c.self.invariant.0 (λ e. let t = c.is_done.ensures.1 e in cc (t, c.if-is_done.false)) in
    ap (λ k. runs (drop (c.self.inside.next + 1) c.self.inside.list.items) (c.self.inside.left - k)) c.requires ∙ s.later
