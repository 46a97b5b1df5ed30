use Rattle.std.proofs.Common.{◌≡◌, ◌/◌, length, ap, arith}
use Rattle.ncq_core.specs.DiskState.{disk_sectors}
use Rattle.ncq_core.proofs.ReservedLemmas.{listed_reserved}
use Rattle.ncq_core.proofs.disk.Disk.reserve_run.Goals as goal

pub returns-clause-ok : goal.returns-clause-ok
returns-clause-ok g c =
    let image = g.S.SectorStore.image in
    let size : length (image c.reserve.new.self) / 512 ≡ length (image c.self.inside.store) / 512 = ap (λ xs. length xs / 512) c.reserve.ensures.image in
    let whole : length (image c.self.inside.store) / 512 ≡ disk_sectors c.args.self.now = ap disk_sectors c.self.view_is in
    listed_reserved (g.S.SectorStore.is_reserved c.reserve.new.self) (length (image c.reserve.new.self) / 512) c.args.lba c.args.sectors (omega (arith, size, whole, c.requires)) c.in_ok-reserve.ensures.ok
