-- one for each worker so far
use Rattle.std.proofs.Common.{◌≡◌, vec_len}
use Rattle.driver_tests.proofs.tests.common.crowd.Given as goal

abbrev pub invariant-loop-worker : goal.invariant-loop-worker
invariant-loop-worker l = vec_len l.choosers ≡ l.worker
