-- Which rule a window breaks first, by tests: each is one of `Rattle.ahci_table.specs.Fit`.
use Rattle.std.specs.Prelude.{ℕ, zero, suc, ◌+◌, ◌*◌, ◌%◌, ◌==◌, Bool, true, not, ◌&&◌, Option, Some, None, length, nat_le, if◌then◌else◌}
use Rattle.ahci_table.specs.Command.{cfis, h2d, queued_of}
use Rattle.ahci_table.specs.Header.{HeaderFields, header_of}
use Rattle.ahci_table.specs.Piece.{are_apart, total}
use Rattle.ahci_table.specs.Prdt.{EntryFields, entry_of, pieces, table_end}
use Rattle.ahci_table.specs.Window.{WindowState, base, most_bytes}
use Rattle.ahci_table.specs.declared.fault.TableFault.{TableFault}
use Rattle.ahci_table.specs.declared.fault.TableFault.TheVariants.{BadHeader, BadCommand, WrongTag, BadList}
use Rattle.sata_fis.specs.Command.{is_queued}
use Rattle.sata_fis.specs.Places.{byte}

-- the header is that of a queued command with 1 to 32 entries
abbrev pub is_header : HeaderFields → Bool
is_header h = h.cfl == 5 && (not h.a && (not h.r && (not h.b && (not h.c && (nat_le 1 h.prdtl && nat_le h.prdtl 32)))))

-- and the table is in this window
abbrev pub has_table : WindowState → Bool
has_table w =
    (header_of w).ctba == base w.tag && ((header_of w).ctbau == 0 && (nat_le (table_end w) (length w.bytes) && nat_le (length w.bytes) most_bytes))

abbrev pub has_header : WindowState → Bool
has_header w = is_header (header_of w) && has_table w

-- two truth values are the same
abbrev pub is_same : Bool → Bool → Bool
is_same a b = if a then b else not b

-- CFIS spells a queued command, in the direction that the header names
abbrev pub has_command : WindowState → Bool
has_command w =
    (byte 0 (cfis w) == 0x27 && length (cfis w) == 20) && (is_queued (h2d w) && is_same (header_of w).w (queued_of w).write)

-- the command's tag is the window's
abbrev pub has_tag : WindowState → Bool
has_tag w = (queued_of w).tag == w.tag

-- an entry names a run of whole words, wholly between two places of the window that begins at an address
abbrev pub is_entry : (start first last : ℕ) → EntryFields → Bool
is_entry start first last e =
    e.dba % 2 == 0 && (e.dbau == 0 && (e.dbc % 2 == 1 && (nat_le (start + first) e.dba && nat_le (e.dba + e.dbc + 1) (start + last))))

-- so does each of the first n
abbrev pub are_entries : WindowState → ℕ → Bool
are_entries w zero = true
are_entries w (suc n) = is_entry (base w.tag) (table_end w) (length w.bytes) (entry_of w n) && are_entries w n

-- the entries name runs that share no byte and have just the command's bytes
abbrev pub has_list : WindowState → Bool
has_list w =
    are_entries w (header_of w).prdtl && (are_apart (pieces w) && total (pieces w) == 512 * (queued_of w).sectors)

-- the first rule that the window breaks
unfoldable pub table_fault : WindowState → Option TableFault
table_fault w =
    if not (has_header w) then Some BadHeader
    else if not (has_command w) then Some BadCommand
    else if not (has_tag w) then Some WrongTag
    else if not (has_list w) then Some BadList
    else None
