-- The first pieces are there, and their entries are good.
use Rattle.std.proofs.Common.{◌≡◌, ◌<◌, ℕ, length}
use Rattle.ahci_table.specs.Fit.{IsEntry}
use Rattle.ahci_table.specs.Prdt.{entry_of, first_pieces, table_end}
use Rattle.ahci_table.specs.Window.{base}
use Rattle.ahci_table.proofs.window.Window.pieces.Given as goal

abbrev pub invariant-loop-index : goal.invariant-loop-index
invariant-loop-index g l =
    (l.pieces.items ≡ first_pieces l.index l.self)
    × ((i : ℕ) → i < l.index → IsEntry (base l.self.tag) (table_end l.self) (length l.self.bytes) (entry_of l.self i))
