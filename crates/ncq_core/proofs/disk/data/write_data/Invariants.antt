-- what has been written so far
use Rattle.std.proofs.Common.{◌≡◌, ◌-◌, ◌%◌, ◌<◌, ◌≤◌, true, length, take}
use Rattle.ncq_journal.specs.Image.{IsWrittenOver}
use Rattle.sector_store.specs.Reserved.{StayReserved}
use Rattle.ncq_core.specs.Traffic.{moved_by}
use Rattle.ncq_core.proofs.disk.data.write_data.Given as goal

abbrev pub invariant-loop-filled : goal.invariant-loop-filled
invariant-loop-filled g l = record {
  within : l.filled ≤ l.bytes;
  whole : l.filled % 512 ≡ 0;
  offset : g.H.Host.offset l.host ≡ l.filled;
  text : g.H.Host.text l.host ≡ g.H.Host.text l.fn.host;
  written : IsWrittenOver l.command.lba (take l.filled (g.H.Host.text l.fn.host)) (g.S.SectorStore.image l.fn.store) (g.S.SectorStore.image l.store);
  size : length (g.S.SectorStore.image l.store) ≡ length (g.S.SectorStore.image l.fn.store);
  stay : StayReserved (g.S.SectorStore.is_reserved l.fn.store) (g.S.SectorStore.is_reserved l.store);
  kind : g.S.SectorStore.grows l.store ≡ g.S.SectorStore.grows l.fn.store;
  starting : g.S.SectorStore.starting l.store ≡ g.S.SectorStore.starting l.fn.store;
  setup : g.H.Host.last_setup l.host ≡ g.H.Host.last_setup l.fn.host;
  aligned : l.filled < l.bytes → l.filled % 8192 ≡ 0;
  saw : g.H.Host.saw l.fn.host (moved_by true l.filled) l.host;
  others : g.H.Host.keeps l.fn.host l.host;
}

abbrev pub decreases-loop-filled : goal.decreases-loop-filled
decreases-loop-filled g l = l.bytes - l.filled
