-- what has been sent so far
use Rattle.std.proofs.Common.{◌≡◌, ◌-◌, ◌%◌, ◌<◌, ◌≤◌, ◌++◌, false, take, drop}
use Rattle.ncq_core.specs.Serving.{bytes_at}
use Rattle.ncq_core.specs.Traffic.{moved_by}
use Rattle.ncq_core.proofs.disk.data.read_data.Given as goal

abbrev pub invariant-loop-sent : goal.invariant-loop-sent
invariant-loop-sent g l = record {
  within : l.sent ≤ l.bytes;
  whole : l.sent % 512 ≡ 0;
  offset : g.H.Host.offset l.host ≡ l.sent;
  text : g.H.Host.text l.host ≡ take l.sent (bytes_at l.command (g.S.SectorStore.image l.store)) ++ drop l.sent (g.H.Host.text l.fn.host);
  setup : g.H.Host.last_setup l.host ≡ g.H.Host.last_setup l.fn.host;
  aligned : l.sent < l.bytes → l.sent % 8192 ≡ 0;
  saw : g.H.Host.saw l.fn.host (moved_by false l.sent) l.host;
  others : g.H.Host.keeps l.fn.host l.host;
}

abbrev pub decreases-loop-sent : goal.decreases-loop-sent
decreases-loop-sent g l = l.bytes - l.sent
