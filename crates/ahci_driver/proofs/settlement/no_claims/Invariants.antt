-- so many so far
use Rattle.std.proofs.Common.{◌≡◌, replicate, None}
use Rattle.ahci_driver.proofs.settlement.no_claims.Given as goal

abbrev pub invariant-loop-place : goal.invariant-loop-place
invariant-loop-place g l = l.claims.items ≡ replicate l._place None
