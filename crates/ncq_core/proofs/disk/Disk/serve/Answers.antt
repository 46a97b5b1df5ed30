use Rattle.std.proofs.Common.{◌∷◌, [], IsSomeAnd, subst, sym}
use Rattle.ncq_core.specs.Traffic.{Setup, passed_for}
use Rattle.ncq_core.proofs.disk.Disk.serve.Goals as goal

pub returns-clause-saw : goal.returns-clause-saw
returns-clause-saw g c =
    subst (λ o. IsSomeAnd o (λ q. g.H.Host.saw c.args.host.now (passed_for q) c.move_sectors.new.host)) (sym c.in_ok-command.ensures.ok.0)
    (g.met.H.Host.saw_more _ _ _ (Setup _ ∷ []) _
    (subst (λ fis. g.H.Host.saw c.args.host.now (Setup fis ∷ []) c.setup.new.self) c.dma_setup.ensures c.setup.ensures.saw) c.move_sectors.ensures.saw)
