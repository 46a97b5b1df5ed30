use Rattle.std.proofs.Common.{◌*◌, ap, replicate, ◌∙◌}
use Rattle.ahci_port.specs.PortView.{new_port}
use Rattle.ahci_jobs.proofs.run.blank.Goals as goal

pub returns-in-Ok-clause-port : goal.returns-in-Ok-clause-port
returns-in-Ok-clause-port g c =
    c.in-Ok.ensures.ok
    ∙ ap (λ items. new_port items c.depth.result) (c.in_ok-image.ensures.items_if_clones_equal (λ y is. is))
    ∙ ap (λ sectors. new_port (replicate (sectors * 512) 0) c.depth.result) c.sectors.ensures.is
    ∙ ap (λ depth. new_port (replicate (c.args.size.sectors * 512) 0) depth) c.depth.ensures.is
