use Rattle.std.proofs.Common.{◌∙◌, arith}
use Rattle.ahci_ffi.proofs.MakingLemmas.{base_size}
use Rattle.hba_ffi.proofs.PluggingLemmas.{plugs}
use Rattle.hba_ffi.proofs.plugs.plug_named.Goals as goal

pub plug_over-requires-clause-right : goal.plug_over-requires-clause-right
plug_over-requires-clause-right c =
    let few = c.ranges.sectors.fits in
    plugs c.args.hba.now c.args.sectors c.args.depth c.args.identity.now _ (omega arith) c.requires (base_size c.args.base.now c.from.result _ c.in-Ok.ensures.image ∙ c.from.ensures)
