use Rattle.std.proofs.Common.{◌≡◌, length, take}
use Rattle.ahci_script.proofs.hex_bytes.HexBytes.read_into.Given as goal

-- the places that were reached have their bytes
abbrev pub invariant-loop-index : goal.invariant-loop-index
invariant-loop-index l = (length l.out ≡ length l.self) × (take l.index l.out ≡ take l.index l.self)
