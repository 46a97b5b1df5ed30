use Rattle.std.proofs.Common.{◌∙◌, ap}
use Rattle.ncq_core.specs.DiskState.{DiskState}
use Rattle.ahci_port.specs.PortView.{port_over}
use Rattle.ahci_port.proofs.port.Port.over_from.Goals as goal

pub returns-in-Ok-clause-ok : goal.returns-in-Ok-clause-ok
returns-in-Ok-clause-ok g c =
    let disk = c.keep.ensures ∙ ap (λ (d : DiskState). let e : DiskState = record d { starting = d.image; reserved = c.keep.new.self.reserved } in e) c.in_ok-disk.ensures.ok.1 in
    c.in-Ok.ensures
    ∙ ap (λ k. port_over k c.args.first c.keep.new.self.image c.depth-depth.result) (ap (λ (d : DiskState). d.grows) disk)
    ∙ ap (λ xs. port_over (g.S.SectorStore.grows c.args.store) c.args.first xs c.depth-depth.result) (ap (λ (d : DiskState). d.image) disk)
    ∙ ap (port_over (g.S.SectorStore.grows c.args.store) c.args.first (g.S.SectorStore.image c.args.store)) (c.depth-depth.ensures.depth ∙ ap (λ (d : DiskState). d.depth) disk)
