-- the commands of the slots so far are issued
use Rattle.word_bits.specs.Places.{bits}
use Rattle.ahci_port.specs.Writes.{CommandsBelow}
use Rattle.ahci_port.proofs.port.Port.command_slots.Given as goal

abbrev pub invariant-loop-slot : goal.invariant-loop-slot
invariant-loop-slot g l = CommandsBelow l.slot (bits l.slots) l.list l.windows l.initial.self l.self
