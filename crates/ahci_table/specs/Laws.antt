-- Laws of windows, over the definitions alone.
use Rattle.std.specs.Prelude.{◌≡◌, ◌≤◌, ◌<◌, ℕ, ◌+◌, ◌*◌, ◌⊎◌, List, Bool, false, length, take, drop, None, Result, Ok, Err, IsOkAnd}
use Rattle.ncq_journal.specs.Work.{Work, sectors_of}
use Rattle.ahci_table.specs.declared.command.Command.{Command}
use Rattle.ahci_table.specs.declared.fault.TableFault.{TableFault}
use Rattle.ahci_table.specs.declared.piece.Piece.{Piece}
use Rattle.ahci_table.specs.Build.{IsBuilt, Carries, queued_for}
use Rattle.ahci_table.specs.Command.{queued_of}
use Rattle.ahci_table.specs.Prdt.{pieces}
use Rattle.ahci_table.specs.Defaults.{default_list}
use Rattle.ahci_table.specs.Refusal.{has_bad_count, list_refusal, refusal}
use Rattle.ahci_table.specs.Window.{WindowState}
use Rattle.ahci_table.specs.Text.{text}
use Rattle.ahci_table.specs.Fit.{IsFit, Breaks}
use Rattle.ahci_table.specs.Scatter.{IsScattered}

-- what `check` may answer of a window
abbrev pub Checks : WindowState → Result Command TableFault → Type 0
Checks w (Ok c) = IsFit w × (c.queued ≡ queued_of w) × (c.pieces.items ≡ pieces w)
Checks w (Err fault) = Breaks w fault

-- a window that was built for a command is fit, carries the command and its pieces, and every answer that `check` may
-- give of it is that command with these pieces
abbrev pub IsTakenAgain : Type 0
IsTakenAgain =
    (tag : ℕ) (work : Work) (fua : Bool) (ps : List Piece) (w : WindowState) (r : Result Command TableFault) → tag < 32 → refusal work ps ≡ None → IsBuilt tag work fua ps w → Checks w r
    → IsFit w × Carries tag work fua ps w × IsOkAnd r (λ c. (c.queued ≡ queued_for tag work fua) × (c.pieces.items ≡ ps))

-- the text of a window that is fit has the bytes of the command's sectors
abbrev pub HasWholeText : Type 0
HasWholeText = (w : WindowState) → IsFit w → length (text w) ≡ 512 * (queued_of w).sectors

-- what was put into a window's text is read there again
abbrev pub GivesBack : Type 0
GivesBack =
    (old new : WindowState) (offset : ℕ) (from : List ℕ) → offset + length from ≤ length (text old)
    → IsScattered old offset from new → take (length from) (drop offset (text new)) ≡ from

-- the ranges of a text share no byte
abbrev pub IsBeside : ℕ → List ℕ → ℕ → List ℕ → Type 0
IsBeside i xs j ys = (i + length xs ≤ j) ⊎ (j + length ys ≤ i)

-- what is put into ranges beside each other may be put there in either order
abbrev pub Commutes : Type 0
Commutes =
    (w a b ab ba : WindowState) (i j : ℕ) (xs ys : List ℕ) → IsFit w
    → i + length xs ≤ length (text w) → j + length ys ≤ length (text w) → IsBeside i xs j ys
    → IsScattered w i xs a → IsScattered a j ys ab → IsScattered w j ys b → IsScattered b i xs ba → ab ≡ ba

-- the default pieces are right for a command whose count is one that a command can have
abbrev pub DefaultsServe : Type 0
DefaultsServe =
    (work : Work) → has_bad_count work ≡ false → list_refusal (default_list (sectors_of work)) (512 * sectors_of work) ≡ None
