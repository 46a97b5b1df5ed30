-- the first commands are served; the registers, and what else no command moves, are as they were
use Rattle.std.proofs.Common.{◌≡◌, ◌+◌}
use Rattle.ahci_port.proofs.UnderwayLemmas.{Underway}
use Rattle.ahci_port.proofs.port.Port.serve.Given as goal

abbrev pub invariant-loop-index : goal.invariant-loop-index
invariant-loop-index g l = record {
  served : Underway
      (record {
        starting = l.initial.self-inside.disk.starting;
        registers = l.initial.self-inside.registers;
        slots = l.initial.self-inside.slots.items;
        headers = l.initial.self-inside.headers;
        past = l.initial.self-inside.journal.past;
        area = l.initial.self-inside.area;
        depth = l.initial.self-inside.disk.depth;
        tags = l.initial.tags.items;
      })
      l.index l.self-inside.disk l.self-inside.slots.items l.self-inside.area l.self-inside.journal.past l.self-inside.journal.room;
  starting_same : l.self-inside.disk.starting ≡ l.initial.self-inside.disk.starting;
  grows_same : l.self-inside.disk.grows ≡ l.initial.self-inside.disk.grows;
  first_same : l.self-inside.journal.first ≡ l.initial.self-inside.journal.first;
  room_is : l.self-inside.journal.room + l.index ≡ l.initial.self-inside.journal.room;
  held_same : l.self-inside.journal.held ≡ l.initial.self-inside.journal.held;
  registers_same : l.self-inside.registers ≡ l.initial.self-inside.registers;
  headers_same : l.self-inside.headers ≡ l.initial.self-inside.headers;
  unqueued_same : l.self-inside.unqueued ≡ l.initial.self-inside.unqueued;
  tags_same : l.tags ≡ l.initial.tags;
}
