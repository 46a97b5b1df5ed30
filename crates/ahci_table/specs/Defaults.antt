-- Where the data of a command lie that names no pieces (profile; AHCI 1.3.1, section 4.2.3.3 "Physical Region Descriptor Table", lets software place each
-- entry's data at any even address).
use Rattle.std.specs.Prelude.{ℕ, ◌+◌, ◌-◌, ◌*◌, min, nat_le, List, [], map, if◌then◌else◌}
use Rattle.std.specs.Int.{div_ceil}
use Rattle.std.specs.List.{range_with_len}
use Rattle.ncq_journal.specs.Lawful.{most_sectors}
use Rattle.ahci_table.specs.Prdt.{entry_place}
use Rattle.ahci_table.specs.declared.piece.Piece.{Piece}
use Rattle.ahci_table.specs.declared.piece_layout.PieceLayout.{PieceLayout}
use Rattle.ahci_table.specs.declared.piece_layout.PieceLayout.TheVariants.{Default, Packed}

-- piece i of those that follow one another from a place on, each of so many sectors and the last as long as it has to be
abbrev pub piece_from : ℕ → ℕ → ℕ → ℕ → Piece
piece_from first sectors apiece i =
    record { at = first + 512 * (apiece * i); len = 512 * min (sectors - apiece * i) apiece }

abbrev pub pieces_from : ℕ → ℕ → ℕ → List Piece
pieces_from first sectors apiece = map (piece_from first sectors apiece) (range_with_len 0 (div_ceil sectors apiece))

-- the default pieces: from 1000h on, each a page of 4,096 bytes where 32 pages hold the command, else 1 MiB
abbrev pub sectors_apiece : ℕ → ℕ
sectors_apiece sectors = if nat_le sectors (32 * 8) then 8 else 2048

-- none for no sectors, and none where one command can't have so many
abbrev pub default_list : ℕ → List Piece
default_list sectors = if nat_le sectors most_sectors then pieces_from 0x1000 sectors (sectors_apiece sectors) else []

-- the packed pieces: as few as hold the command, each of 4 MiB, the most that DBC can count, and the first right behind the PRDT
abbrev pub most_apiece : ℕ
most_apiece = 8192

abbrev pub packed_list : ℕ → List Piece
packed_list sectors =
    if nat_le sectors most_sectors then pieces_from (entry_place (div_ceil sectors most_apiece)) sectors most_apiece else []

abbrev pub list_of : PieceLayout → ℕ → List Piece
list_of Default sectors = default_list sectors
list_of Packed sectors = packed_list sectors
