-- The place is known in each arm.
use Rattle.std.proofs.Common.{◌≡◌, arith}
use Rattle.hba_regs.proofs.words.with_byte.Goals as goal

pub returns-in-0 : goal.returns-in-0
returns-in-0 c = rw c.in-0.is (omega arith)

pub returns-in-1 : goal.returns-in-1
returns-in-1 c = rw c.in-1.is (omega arith)

pub returns-in-2 : goal.returns-in-2
returns-in-2 c = rw c.in-2.is (omega arith)

pub returns-in_default : goal.returns-in_default
returns-in_default c =
    let e : c.args.place ≡ 3 = omega arith in
    rw e (omega arith)
