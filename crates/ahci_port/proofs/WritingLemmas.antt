-- The words of registers that show no command.
use Rattle.std.proofs.Common.{◌≡◌, ap, sym, ◌∙◌, arith}
use Rattle.word_bits.specs.Places.{no_places, word_of}
use Rattle.word_bits.proofs.BitsLemmas.{bits_zero, word_of-bits}

pub word_of_none : word_of no_places ≡ 0
word_of_none = ap word_of (sym bits_zero) ∙ word_of-bits 0 (omega arith)
