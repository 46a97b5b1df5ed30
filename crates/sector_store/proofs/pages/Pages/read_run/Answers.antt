use Rattle.std.proofs.Common.{◌≡◌, ◌+◌, length, ap, ◌∙◌, arith}
use Rattle.sector_store.specs.Slots.{slot_at}
use Rattle.sector_store.specs.Shown.{sector_now}
use Rattle.sector_store.proofs.ShownLemmas.{are_sectors_now, read_more}
use Rattle.sector_store.proofs.pages.Pages.read_run.Goals as goal

pub loop-k-preserved : goal.loop-k-preserved
loop-k-preserved g c =
    let below = g.B.Base.sector c.args.self.now.base in
    let slots = slot_at c.args.self.now.table in
    let sized = are_sectors_now below slots (g.met.B.Base.whole c.args.self.now.base) c.args.self.now.whole in
    let len : length c.read_sector.new.out ≡ 512 = ap length c.read_sector.ensures ∙ sized (c.args.lba + c.loop-k.k) in
    read_more (sector_now below slots) c.args.lba c.loop-k.k _ c.loop-k.out c.read_sector.new.out (omega arith) len (omega arith) c.read_sector.ensures c.loop-k.invariant
