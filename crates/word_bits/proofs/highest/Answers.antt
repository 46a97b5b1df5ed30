-- The word isn't 0 here.
use Rattle.std.proofs.Common.{arith}
use Rattle.word_bits.proofs.BitsLemmas.{highest_bit}
use Rattle.word_bits.proofs.highest.Goals as goal

pub returns : goal.returns
returns c = highest_bit c.args.word (omega arith) (omega arith)
