-- Which windows a port takes: four rules, in the order in which they are tested (profile).
use Rattle.std.specs.Prelude.{◌≡◌, ◌≤◌, ◌<◌, ℕ, ◌+◌, ◌*◌, ◌%◌, true, false, length}
use Rattle.sata_fis.specs.declared.fis.Fis.TheVariants.{H2d}
use Rattle.sata_fis.specs.Command.{is_queued}
use Rattle.sata_fis.specs.Spelling.{Spells}
use Rattle.ahci_table.specs.declared.fault.TableFault.{TableFault}
use Rattle.ahci_table.specs.declared.fault.TableFault.TheVariants.{BadHeader, BadCommand, WrongTag, BadList}
use Rattle.ahci_table.specs.Piece.{are_apart, total}
use Rattle.ahci_table.specs.Window.{WindowState, base, most_bytes}
use Rattle.ahci_table.specs.Header.{header_of}
use Rattle.ahci_table.specs.Prdt.{EntryFields, entry_of, table_end, pieces}
use Rattle.ahci_table.specs.Command.{cfis, h2d, queued_of}

-- 1. the header is that of a queued command whose table, of 1 to 32 entries, is in this window
pub record HasHeader (w : WindowState) : Type 0 where
  pub cfl : (header_of w).cfl ≡ 5
  pub a : (header_of w).a ≡ false
  pub r : (header_of w).r ≡ false
  pub b : (header_of w).b ≡ false
  pub c : (header_of w).c ≡ false
  pub some : 1 ≤ (header_of w).prdtl
  pub most : (header_of w).prdtl ≤ 32
  pub ctba : (header_of w).ctba ≡ base w.tag
  pub ctbau : (header_of w).ctbau ≡ 0
  pub room : table_end w ≤ length w.bytes
  pub bounded : length w.bytes ≤ most_bytes

-- 2. CFIS spells READ or WRITE FPDMA QUEUED, in the direction that the header names
pub record HasCommand (w : WindowState) : Type 0 where
  pub spells : Spells (cfis w) (H2d (h2d w))
  pub asks : is_queued (h2d w) ≡ true
  pub direction : (header_of w).w ≡ (queued_of w).write

-- 3. the command's tag is the window's
abbrev pub HasTag : WindowState → Type 0
HasTag w = (queued_of w).tag ≡ w.tag

-- an entry names a run of whole words, wholly between two places of the window that begins at an address
pub record IsEntry (start first last : ℕ) (e : EntryFields) : Type 0 where
  pub even : e.dba % 2 ≡ 0
  pub low : e.dbau ≡ 0
  pub odd : e.dbc % 2 ≡ 1
  pub after : start + first ≤ e.dba
  pub within : e.dba + e.dbc + 1 ≤ start + last

-- each entry of the PRDT does so between the end of the command table and the end of the window
abbrev pub HasEntries : WindowState → Type 0
HasEntries w = (i : ℕ) → i < (header_of w).prdtl → IsEntry (base w.tag) (table_end w) (length w.bytes) (entry_of w i)

-- 4. the entries name runs that share no byte and have just the command's bytes
pub record HasList (w : WindowState) : Type 0 where
  pub entries : HasEntries w
  pub apart : are_apart (pieces w) ≡ true
  pub whole : total (pieces w) ≡ 512 * (queued_of w).sectors

-- all four
pub record IsFit (w : WindowState) : Type 0 where
  pub header : HasHeader w
  pub command : HasCommand w
  pub tag : HasTag w
  pub listed : HasList w

-- the fault is the first rule that the window breaks
abbrev pub Breaks : WindowState → TableFault → Type 0
Breaks w BadHeader = ¬ (HasHeader w)
Breaks w BadCommand = HasHeader w × ¬ (HasCommand w)
Breaks w WrongTag = HasHeader w × HasCommand w × ¬ (HasTag w)
Breaks w BadList = HasHeader w × HasCommand w × HasTag w × ¬ (HasList w)
