-- What is kept of the port that a command finds.
use Rattle.std.specs.Prelude.{ℕ, Option, None, Some}
use Rattle.ahci_port.specs.PortView.{PortView, next_number}
use Rattle.ahci_draw.specs.Tags.{tags_of}
use Rattle.ahci_draw.specs.declared.mark.Mark.{Mark}

-- the number of the entry that comes next; 0 before the disk
abbrev pub end_of : Option PortView → ℕ
end_of None = 0
end_of (Some port) = next_number port

abbrev pub mark_of : Option PortView → Mark
mark_of port = record { end = end_of port; tags = tags_of port }
