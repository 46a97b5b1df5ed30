-- The place is known in each arm.
use Rattle.std.proofs.Common.{◌≡◌, arith}
use Rattle.hba_regs.proofs.words.with_pair.Goals as goal

pub returns-in-0 : goal.returns-in-0
returns-in-0 c = rw c.in-0.is (omega arith)

pub returns-in_default : goal.returns-in_default
returns-in_default c =
    let e : c.args.place ≡ 2 = omega arith in
    rw e (omega arith)
