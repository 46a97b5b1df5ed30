-- The bytes of the next run are there.
use Rattle.std.proofs.Common.{ap, ◌∙◌, ◌≡◌, ◌+◌, ◌-◌, drop, take, length, arith}
use Rattle.hba_memory.specs.Runs.{first_put}
use Rattle.hba_memory.proofs.RunLemmas.{Scatters, scatters}
use Rattle.hba_memory.proofs.scatter.Scatter.bytes.Goals as goal

pub overflow_add-result : goal.overflow_add-result
overflow_add-result g c =
    let s : Scatters c.self.inside.list.items c.self.inside.next c.self.inside.bytes.items c.self.inside.done c.args.self.now
    = scatters _ _ _ _ _ c.self.view_is c.self.invariant.0 c.self.invariant.1 (λ e. let t = c.is_done.ensures.1 e in cc (t, c.if-is_done.false)) in
    let fits = s.fits in
    let n = c.run_length.ensures in
    omega arith

pub slice_bounds-result-end-2 : goal.slice_bounds-result-end-2
slice_bounds-result-end-2 g c =
    let s : Scatters c.self.inside.list.items c.self.inside.next c.self.inside.bytes.items c.self.inside.done c.args.self.now
    = scatters _ _ _ _ _ c.self.view_is c.self.invariant.0 c.self.invariant.1 (λ e. let t = c.is_done.ensures.1 e in cc (t, c.if-is_done.false)) in
    let fits = s.fits in
    let n = c.run_length.ensures in
    let d = c.deref-2.ensures in
    omega arith

pub returns : goal.returns
returns g c =
    let s : Scatters c.self.inside.list.items c.self.inside.next c.self.inside.bytes.items c.self.inside.done c.args.self.now
    = scatters _ _ _ _ _ c.self.view_is c.self.invariant.0 c.self.invariant.1 (λ e. let t = c.is_done.ensures.1 e in cc (t, c.if-is_done.false)) in
    let k : (c.self.inside.done + c.run_length.result) - c.self.inside.done ≡ length (first_put c.args.self.now).bytes = (let n = c.run_length.ensures in omega arith) in
    ap (λ l. take ((c.self.inside.done + c.run_length.result) - c.self.inside.done) (drop c.self.inside.done l)) c.deref-2.ensures.value
    ∙ ap (λ k. take k (drop c.self.inside.done c.self.inside.bytes.items)) k ∙ s.part
