use Rattle.std.proofs.Common.{◌≡◌, None, ℕ, sym, ◌∙◌, subst, arith}
use Rattle.ncq_core.specs.DiskState.{over_fault}
use Rattle.ahci_ffi.proofs.MakingLemmas.{base_fits, base_size}
use Rattle.hba_ffi.proofs.create.make_over.Goals as goal

pub boxed-requires-clause-sizes : goal.boxed-requires-clause-sizes
boxed-requires-clause-sizes c =
    let few = c.ranges.sectors.fits in
    subst (λ n. over_fault n c.args.depth ≡ None) (sym (base_size c.args.base.now c.from.result _ c.in_ok-store.ensures.image ∙ c.from.ensures))
    (base_fits c.args.sectors c.args.depth 0 (omega arith) (sym c.over_refusal.ensures ∙ c.in_default.is))
