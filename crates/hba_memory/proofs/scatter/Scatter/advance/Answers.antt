-- One run more is written.
use Rattle.std.proofs.Common.{ap, ◌∙◌, ◌+◌, drop, arith}
use Rattle.hba_memory.specs.Runs.{placed}
use Rattle.hba_memory.proofs.RunLemmas.{Scatters, scatters}
use Rattle.hba_memory.proofs.scatter.Scatter.advance.Goals as goal

pub overflow_add-self : goal.overflow_add-self
overflow_add-self g c =
    let s : Scatters c.self.inside.list.items c.self.inside.next c.self.inside.bytes.items c.self.inside.done c.args.self.now
    = scatters _ _ _ _ _ c.self.view_is c.self.invariant.0 c.self.invariant.1 (λ e. let t = c.is_done.ensures.1 e in cc (t, c.if-is_done.false)) in
    let fits = s.fits in
    let n = c.run_length.ensures in
    omega arith

pub invariant_of-self : goal.invariant_of-self
invariant_of-self g c =
    let s : Scatters c.self.inside.list.items c.self.inside.next c.self.inside.bytes.items c.self.inside.done c.args.self.now
    = scatters _ _ _ _ _ c.self.view_is c.self.invariant.0 c.self.invariant.1 (λ e. let t = c.is_done.ensures.1 e in cc (t, c.if-is_done.false)) in
    let fits = s.fits in
    let index = s.index in
    let n = c.run_length.ensures in
    (omega arith, omega arith)

pub returns : goal.returns
returns g c =
    let s : Scatters c.self.inside.list.items c.self.inside.next c.self.inside.bytes.items c.self.inside.done c.args.self.now
    = scatters _ _ _ _ _ c.self.view_is c.self.invariant.0 c.self.invariant.1 (λ e. let t = c.is_done.ensures.1 e in cc (t, c.if-is_done.false)) in
    ap (λ k. placed (drop (c.self.inside.next + 1) c.self.inside.list.items) (drop (c.self.inside.done + k) c.self.inside.bytes.items)) c.run_length.ensures ∙ s.later
