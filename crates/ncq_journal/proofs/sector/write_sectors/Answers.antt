use Rattle.std.proofs.Common.{◌/◌, length, arith}
use Rattle.ncq_journal.proofs.ImageLemmas.{sector_at-put_mid}
use Rattle.ncq_journal.proofs.sector.write_sectors.Goals as goal

pub returns-clause-sectors : goal.returns-clause-sectors
returns-clause-sectors c s =
    rw c.copy_from_slice.ensures.after (sector_at-put_mid c.args.lba (length c.args.bytes.now / 512) _ c.args.image.now c.args.bytes.now (omega arith) c.requires.whole (omega arith) s)
