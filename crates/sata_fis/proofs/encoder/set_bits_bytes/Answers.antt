-- What was written is read back.
use Rattle.std.proofs.Common.{arith}
use Rattle.sata_fis.proofs.SpellingLemmas.{set_bits_at-set_bits_bytes}
use Rattle.sata_fis.proofs.encoder.set_bits_bytes.Goals as goal

pub returns-clause-back : goal.returns-clause-back
returns-clause-back c =
    rw (c.from_dwords.ensures, c.flags.ensures, c.to_le_bytes.ensures, ← c.f.view_is) (set_bits_at-set_bits_bytes _ c.f.invariant (omega arith))
