-- All sectors are read.
use Rattle.std.proofs.Common.{◌≡◌, ◌∙◌, ap, arith}
use Rattle.ahci_hba.specs.Failing.{sectors_of}
use Rattle.ahci_hba.proofs.hba.fail.sectors_of.Goals as goal

pub returns : goal.returns
returns g c =
    let all : c.loop-index.index ≡ c.args.sectors = omega arith in
    c.loop-index.invariant ∙ ap (λ n. sectors_of c.args.port.now c.args.first n) all
