use Rattle.std.proofs.Common.{◌+◌, ◌/◌, ◌≤◌, ◌&&◌, length, sym, subst}
use Rattle.ncq_core.specs.DiskState.{DiskState, disk_sectors}
use Rattle.ncq_core.specs.Serving.{HasMemory}
use Rattle.ncq_core.proofs.ReservedLemmas.{may_move}
use Rattle.ncq_core.proofs.disk.Disk.move_sectors.Goals as goal

pub move_data-requires-clause-reserved : goal.move_data-requires-clause-reserved
move_data-requires-clause-reserved g c =
    let store = c.self.inside.store in
    let q = c.args.command.now in
    let fits = subst (λ (d : DiskState). q.lba + q.sectors ≤ disk_sectors d) (sym c.self.view_is) c.requires.sectors in
    let has = subst (λ (d : DiskState). HasMemory (g.S.SectorStore.can_grow && d.grows) (disk_sectors d) d.reserved q) (sym c.self.view_is) c.requires.reserved in
    may_move g.S.SectorStore.can_grow (g.S.SectorStore.grows store) (g.S.SectorStore.is_reserved store) (length (g.S.SectorStore.image store) / 512) q (g.met.S.SectorStore.none_lacks store) (g.met.S.SectorStore.none_grows store) fits has
