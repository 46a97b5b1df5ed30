-- Where the received FIS area has changed, a FIS is reported (AHCI 1.3.1, section 4.2.1).
use Rattle.std.specs.Prelude.{◌≡◌, ◌⊎◌, ◌+◌, ◌<◌, ◌≤◌, ℕ, List, Option, None, Some, length, slice_index}
use Rattle.ahci_port.specs.PortView.{PortView, setup_place, pio_place, register_place, bits_place}
use Rattle.ahci_replay.specs.Commands.{RunsOn}
use Rattle.ahci_script.specs.Said.{Said}
use Rattle.ahci_script.specs.declared.line.ScriptCommand.{ScriptCommand}
use Rattle.ahci_trace.specs.Trace.{told_between}
use Rattle.ahci_trace.specs.declared.received.Received.{Received}

-- a FIS of so many bytes is reported, and the byte i of the area is one of them
abbrev pub IsAt : Option (List ℕ) → (place len i : ℕ) → Type 0
IsAt None place len i = ⊥
IsAt (Some fis) place len i = (place ≤ i) × (i < place + len)

-- the byte i of the area is one of a FIS that is reported
abbrev pub IsOfTold : Received → ℕ → Type 0
IsOfTold r i = IsAt r.setup setup_place 28 i ⊎ (IsAt r.pio pio_place 20 i ⊎ (IsAt r.register register_place 20 i ⊎ IsAt r.bits bits_place 8 i))

-- a command changes no byte of the area but those of the FISes that are reported of it
abbrev pub TellsReceived : Type 0
TellsReceived = (old new : PortView) (command : ScriptCommand) (said : Said) → length old.area ≡ 256 → RunsOn old command new said → (i : ℕ)
    → ¬ (IsOfTold (told_between (Some old) (Some new)).received i) → slice_index new.area i ≡ slice_index old.area i
