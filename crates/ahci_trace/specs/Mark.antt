-- What is kept of the port that a command finds: where its journal ends, and the words of its registers.
use Rattle.std.specs.Prelude.{ℕ, List, Option, None, Some, map, replicate}
use Rattle.ahci_port.specs.PortView.{PortView, next_number}
use Rattle.ahci_regs.specs.Reading.{word_at}
use Rattle.ahci_regs.specs.RegisterTable.{registers}
use Rattle.ahci_trace.specs.declared.mark.Mark.{Mark}

-- the words of all registers, in the order of their offsets; there are none before the disk
abbrev pub words_of : Option PortView → List (Option ℕ)
words_of None = replicate 18 None
words_of (Some port) = map (λ register. Some (word_at port.registers register)) registers

-- the number of the entry that comes next
abbrev pub end_of : Option PortView → ℕ
end_of None = 0
end_of (Some port) = next_number port

abbrev pub mark_of : Option PortView → Mark
mark_of port = record { end = end_of port; words = words_of port }
