-- The bytes that are written for a command with a list of pieces (AHCI 1.3.1, sections 4.2.2 and 4.2.3). Reserved bits,
-- P, PMP, PRDBC, ACMD, I, the control byte and PRIO are 0.
use Rattle.std.specs.Prelude.{◌≡◌, ◌≤◌, ℕ, ◌+◌, ◌-◌, ◌*◌, Bool, false, List, [], ◌∷◌, ◌++◌, length, take, replicate, if◌then◌else◌}
use Rattle.std.specs.Int.{byte_at}
use Rattle.std.specs.List.{flat_map}
use Rattle.sata_fis.specs.Command.{h2d_for}
use Rattle.sata_fis.specs.Encoding.{h2d_bytes}
use Rattle.sata_fis.specs.Fields.{QueuedFields}
use Rattle.sata_fis.specs.Places.{byte}
use Rattle.ncq_journal.specs.Image.{is_write}
use Rattle.ncq_journal.specs.Work.{Work, Read, Write, lba_of, sectors_of}
use Rattle.ahci_table.specs.declared.piece.Piece.{Piece}
use Rattle.ahci_table.specs.Piece.{furthest}
use Rattle.ahci_table.specs.Window.{WindowState, base}
use Rattle.ahci_table.specs.Prdt.{pieces, entry_place}
use Rattle.ahci_table.specs.Text.{joined}
use Rattle.ahci_table.specs.Command.{op, queued_of}
use Rattle.ahci_table.specs.Scatter.{in_some}

-- a dword, its low byte first
abbrev pub dword : ℕ → List ℕ
dword n = byte_at 0 n ∷ byte_at 1 n ∷ byte_at 2 n ∷ byte_at 3 n ∷ []

-- CFL 5 and W; PRDTL; PRDBC; CTBA; CTBAU; the reserved dwords
abbrev pub header_for : ℕ → Work → ℕ → List ℕ
header_for tag work n =
    ((if is_write work then 0x45 else 0x05) ∷ 0 ∷ byte_at 0 n ∷ byte_at 1 n ∷ [])
    ++ dword 0 ++ dword (base tag) ++ dword 0 ++ replicate 16 0

-- the queued command, with FUA or without
abbrev pub queued_for : ℕ → Work → (fua : Bool) → QueuedFields
queued_for tag work fua = record {
  write = is_write work;
  tag = tag;
  lba = lba_of work;
  sectors = sectors_of work;
  fua = fua;
}

-- DBA, DBAU, reserved, DBC
abbrev pub entry_for : ℕ → Piece → List ℕ
entry_for start p = dword (start + p.at) ++ dword 0 ++ dword 0 ++ dword (p.len - 1)

-- the command FIS, the rest of CFIS with ACMD and what is reserved after it, and the PRDT
abbrev pub table_for : ℕ → Work → (fua : Bool) → List Piece → List ℕ
table_for tag work fua ps = h2d_bytes (h2d_for (queued_for tag work fua)) ++ replicate 108 0 ++ flat_map (entry_for (base tag)) ps

-- the data that is in the window at first
abbrev pub data_for : Work → List ℕ
data_for (Read lba sectors) = replicate (512 * sectors) 0
data_for (Write lba bytes) = bytes

-- the window has these bytes, and no others: header, table, data, and zeros where there is no data
pub record IsBuilt (tag : ℕ) (work : Work) (fua : Bool) (ps : List Piece) (w : WindowState) : Type 0 where
  pub tag_is : w.tag ≡ tag
  pub header_is : w.header ≡ header_for tag work (length ps)
  pub table_is : take (entry_place (length ps)) w.bytes ≡ table_for tag work fua ps
  pub end_is : length w.bytes ≡ furthest ps
  pub data_is : joined ps w.bytes ≡ data_for work
  pub gaps : (x : ℕ) → entry_place (length ps) ≤ x → in_some x ps ≡ false → byte x w.bytes ≡ 0

-- what the window says is what was asked
pub record Carries (tag : ℕ) (work : Work) (fua : Bool) (ps : List Piece) (w : WindowState) : Type 0 where
  pub tag_is : w.tag ≡ tag
  pub op_is : op w ≡ work
  pub queued_is : queued_of w ≡ queued_for tag work fua
  pub pieces_are : pieces w ≡ ps
