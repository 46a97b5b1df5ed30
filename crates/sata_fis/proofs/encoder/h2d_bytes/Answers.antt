-- What was written is read back.
use Rattle.std.proofs.Common.{arith}
use Rattle.sata_fis.proofs.SpellingLemmas.{h2d_at-h2d_bytes}
use Rattle.sata_fis.proofs.encoder.h2d_bytes.Goals as goal

pub returns-clause-back : goal.returns-clause-back
returns-clause-back c =
    rw (c.from_dwords.ensures, c.flags.ensures, c.to_le_bytes.ensures, c.to_le_bytes-2.ensures, c.to_le_bytes-3.ensures, ← c.f.view_is)
    (h2d_at-h2d_bytes _ (omega arith) c.f.invariant (omega arith))
