-- The slots that requests own, and the states of their commands.
use Rattle.std.specs.Prelude.{Bool, not, List, map, filter}
use Rattle.std.specs.List.{range_with_len}
use Rattle.ahci_port.specs.PortView.{is_free}
use Rattle.ncq_journal.specs.Entry.{Entry}
use Rattle.ncq_journal.specs.Phase.{phase}
use Rattle.ncq_journal.specs.declared.phase.Phase.{Phase}
use Rattle.ahci_trace.specs.declared.owned.OwnedSlot.{OwnedSlot}

abbrev pub is_owned : Phase → Bool
is_owned p = not (is_free p)

-- the slots that are not free, rising
abbrev pub owned_slots : List Entry → List OwnedSlot
owned_slots past =
    map (λ tag. record { tag = tag; phase = phase past tag }) (filter (λ tag. is_owned (phase past tag)) (range_with_len 0 32))
