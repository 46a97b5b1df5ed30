use Rattle.std.proofs.Common.{◌≡◌, ◌*◌, replicate, arith, rules}
use Rattle.ncq_journal.proofs.ImageLemmas.{zeroed-put_mid}
use Rattle.ncq_journal.proofs.sector.zero_sectors.Goals as goal

pub returns-clause-sectors : goal.returns-clause-sectors
returns-clause-sectors c s =
    let zeros : c.fill.new.self ≡ replicate (512 * c.args.sectors) 0 = search rules in
    zeroed-put_mid c.args.lba c.args.sectors _ c.args.image.now c.fill.new.self (omega arith) zeros (omega arith) s
