-- The physical region descriptor table of a command table (AHCI 1.3.1, section 4.2.3 "Command Table"): entries of 16
-- bytes from 80h on. The interrupt bit of an entry has no effect here.
use Rattle.std.specs.Prelude.{ℕ, ◌+◌, ◌-◌, ◌*◌, ◌%◌, ◌^◌, List, map}
use Rattle.std.specs.List.{range_with_len}
use Rattle.sata_fis.specs.Places.{number}
use Rattle.ahci_table.specs.declared.entry.Entry.TheInside.{Inside}
use Rattle.ahci_table.specs.declared.piece.Piece.{Piece}
use Rattle.ahci_table.specs.Window.{WindowState, base}
use Rattle.ahci_table.specs.Header.{header_of}

-- where an entry begins; where the table with so many entries ends
abbrev pub entry_place : ℕ → ℕ
entry_place i = 0x80 + 16 * i

-- the fields of an entry
abbrev pub EntryFields : Type 0
EntryFields = Inside

-- the entry that begins at a place
abbrev pub entry_at : ℕ → List ℕ → EntryFields
entry_at place bytes = record {
  dba = number place 4 bytes;
  dbau = number (place + 4) 4 bytes;
  dbc = number (place + 12) 4 bytes % 2 ^ 22;
}

-- entry i of a window's PRDT
abbrev pub entry_of : WindowState → ℕ → EntryFields
entry_of w i = entry_at (entry_place i) w.bytes

-- the run of bytes that an entry names, in the window of a base
abbrev pub piece_of : ℕ → EntryFields → Piece
piece_of start e = record { at = e.dba - start; len = e.dbc + 1 }

-- the place after the command table
abbrev pub table_end : WindowState → ℕ
table_end w = entry_place (header_of w).prdtl

-- the first n pieces of the list
abbrev pub first_pieces : ℕ → WindowState → List Piece
first_pieces n w = map (λ i. piece_of (base w.tag) (entry_of w i)) (range_with_len 0 n)

-- the pieces that the entries name, in their order
abbrev pub pieces : WindowState → List Piece
pieces w = first_pieces (header_of w).prdtl w
