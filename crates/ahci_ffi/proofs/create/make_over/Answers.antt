use Rattle.std.proofs.Common.{◌≡◌, None, ℕ, sym, ◌∙◌, subst, arith, w32}
use Rattle.ahci_port.specs.Faults as port
use Rattle.ahci_ffi.proofs.MakingLemmas.{base_may, base_size}
use Rattle.ahci_ffi.proofs.create.make_over.Goals as goal

pub boxed-requires-clause-sizes : goal.boxed-requires-clause-sizes
boxed-requires-clause-sizes c =
    let few = c.ranges.sectors.fits in
    subst (λ n. port.over_refusal n c.args.depth c.args.first ≡ None) (sym (base_size c.args.base.now c.from.result _ c.in_ok-store.ensures.image ∙ c.from.ensures))
    (base_may c.args.sectors c.args.depth c.args.first (omega arith) (sym c.over_refusal.ensures ∙ c.in_default.is))
