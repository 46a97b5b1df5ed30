-- The word isn't 0 here.
use Rattle.std.proofs.Common.{arith}
use Rattle.word_bits.proofs.BitsLemmas.{lowest_bit}
use Rattle.word_bits.proofs.lowest.Goals as goal

pub returns : goal.returns
returns c = lowest_bit c.args.word (omega arith) (omega arith)
