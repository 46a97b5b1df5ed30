use Rattle.std.proofs.Common.{arith}
use Rattle.hba_regs.proofs.LawLemmas.{eight_as_two}
use Rattle.hba_regs.proofs.laws.eight_bytes_are_two_words.Goals as goal

pub returns-clause-write : goal.returns-clause-write
returns-clause-write c = eight_as_two c.args.regs.now c.args.off c.args.lower c.args.upper c.requires (omega arith) (omega arith)
