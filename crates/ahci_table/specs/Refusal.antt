-- Why no window is built for a command with a list of pieces: the first of eight cases, in this order (profile).
use Rattle.std.specs.Prelude.{ℕ, ◌*◌, ◌%◌, ◌^◌, Bool, ◌||◌, not, nat_eq, nat_le, nat_lt, List, length, Option, Some, None, if◌then◌else◌}
use Rattle.std.specs.List.{list_any}
use Rattle.ncq_journal.specs.Lawful.{most_sectors}
use Rattle.ncq_journal.specs.Work.{Work, is_ragged, lba_of, sectors_of}
use Rattle.ahci_table.specs.declared.piece.Piece.{Piece}
use Rattle.ahci_table.specs.declared.fault.BuildFault.{BuildFault}
use Rattle.ahci_table.specs.declared.fault.BuildFault.TheVariants.{BadCount, BadLba, NoPieces, TooManyPieces, OddPiece, PieceOutside, PiecesOverlap, WrongTotal}
use Rattle.ahci_table.specs.Piece.{end_of, are_apart, total}
use Rattle.ahci_table.specs.Window.{most_bytes}
use Rattle.ahci_table.specs.Prdt.{entry_place}

-- no sectors, too many, or not whole ones
abbrev pub has_bad_count : Work → Bool
has_bad_count work = nat_eq (sectors_of work) 0 || nat_lt most_sectors (sectors_of work) || is_ragged work

-- an odd place, an odd length, no bytes, or more than DBC can count
abbrev pub is_odd : Piece → Bool
is_odd p = not (nat_eq (p.at % 2) 0) || not (nat_eq (p.len % 2) 0) || nat_eq p.len 0 || nat_lt (2 ^ 22) p.len

-- a piece that begins before the end of a table of n entries, or ends past the longest window
abbrev pub is_outside : ℕ → Piece → Bool
is_outside n p = nat_lt p.at (entry_place n) || nat_lt most_bytes (end_of p)

-- why pieces don't serve for a command of so many bytes
abbrev pub list_refusal : List Piece → ℕ → Option BuildFault
list_refusal ps bytes =
    if nat_eq (length ps) 0 then Some NoPieces
    else (if nat_lt 32 (length ps) then Some TooManyPieces
    else (if list_any is_odd ps then Some OddPiece
    else (if list_any (is_outside (length ps)) ps then Some PieceOutside
    else (if not (are_apart ps) then Some PiecesOverlap
    else (if not (nat_eq (total ps) bytes) then Some WrongTotal
    else None)))))

-- the first case that holds
abbrev pub refusal : Work → List Piece → Option BuildFault
refusal work ps =
    if has_bad_count work then Some BadCount
    else (if nat_le (2 ^ 48) (lba_of work) then Some BadLba
    else list_refusal ps (512 * sectors_of work))
