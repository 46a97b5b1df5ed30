-- What was written is read back.
use Rattle.std.proofs.Common.{arith}
use Rattle.sata_fis.proofs.SpellingLemmas.{d2h_at-d2h_bytes}
use Rattle.sata_fis.proofs.encoder.d2h_bytes.Goals as goal

pub returns-clause-back : goal.returns-clause-back
returns-clause-back c =
    rw (c.from_dwords.ensures, c.flags.ensures, c.to_le_bytes.ensures, c.to_le_bytes-2.ensures, ← c.f.view_is) (d2h_at-d2h_bytes _ c.f.invariant (omega arith))
