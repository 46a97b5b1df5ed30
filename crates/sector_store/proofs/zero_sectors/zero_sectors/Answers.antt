use Rattle.std.proofs.Common.{◌≡◌, ◌*◌, replicate, arith, rules}
use Rattle.sector_store.proofs.ZeroLemmas.{zeroed-put_mid}
use Rattle.sector_store.proofs.zero_sectors.zero_sectors.Goals as goal

pub returns-clause-zeroed : goal.returns-clause-zeroed
returns-clause-zeroed c s =
    let zeros : c.fill.new.self ≡ replicate (512 * c.args.sectors) 0 = search rules in
    zeroed-put_mid c.args.lba c.args.sectors _ c.args.image.now c.fill.new.self (omega arith) zeros (omega arith) s
