-- It is a sector of the disk, which has fewer than 2 ^ 32.
use Rattle.std.proofs.Common.{arith}
use Rattle.std.proofs.lemmas.Option.{IfSome_then}
use Rattle.ahci_hba.proofs.hba.Hba.marked_on.Goals as goal

pub returns-clause-fits : goal.returns-clause-fits
returns-clause-fits g c =
    IfSome_then c.first_marked.result c.first_marked.ensures.among (λ m p.
    let least = p.0 in
    let most = p.1 in
    let all = c.sectors.type_inv in
    let told = c.from.ensures in
    let reach = c.reached.ensures.most in
    let there = c.saturating_sub-there.ensures in
    let count = c.min-sectors.ensures in
    omega arith)
