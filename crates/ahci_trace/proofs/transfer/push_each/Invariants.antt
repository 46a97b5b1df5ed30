-- The pieces of the first ones are appended.
use Rattle.std.proofs.Common.{◌≡◌, ◌++◌, take}
use Rattle.std.specs.List.{flat_map}
use Rattle.ahci_trace.specs.Text.{data_text}
use Rattle.ahci_trace.proofs.transfer.push_each.Given as goal

abbrev pub invariant-loop-bytes : goal.invariant-loop-bytes
invariant-loop-bytes g l =
    l.text.bytes ≡ l.initial.text.bytes ++ flat_map (data_text l.write) (take l.bytes-index l.payloads)
