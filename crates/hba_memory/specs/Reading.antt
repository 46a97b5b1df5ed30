-- How a command is read from the driver's memory, each byte once (AHCI 1.3.1, sections 4.2 and 5.3): its header, the command FIS, the
-- PRDT as far as the data need it if it moves data, and a write's data.
use Rattle.std.specs.Prelude.{◌≡◌, ℕ, ◌+◌, ◌-◌, ◌*◌, Bool, true, false, not, ◌&&◌, ◌||◌, ◌==◌, nat_lt, List, [], ◌++◌, length, Option, None, Some, if◌then◌else◌}
use Rattle.sata_fis.specs.Fields.{H2dFields}
use Rattle.hba_command.specs.Action as action
use Rattle.hba_command.specs.Action.{action_of}
use Rattle.hba_command.specs.CommandFis.{command_fis}
use Rattle.hba_command.specs.CommandHeader.{header_at}
use Rattle.hba_command.specs.Task.{task_of}
use Rattle.hba_command.specs.declared.entry.PrdEntry.{PrdEntry}
use Rattle.hba_command.specs.declared.header.CommandHeader.{CommandHeader}
use Rattle.hba_command.specs.declared.task.Task.{Task}
use Rattle.hba_memory.specs.Gathering.{Gathering}
use Rattle.hba_memory.specs.Runs.{Run, first_run, later_runs, runs, total}
use Rattle.hba_memory.specs.Table.{TableView, entries_in, next_entries, unread, wrapped}
use Rattle.hba_memory.specs.declared.reading.Reading.{Reading}
use Rattle.hba_memory.specs.declared.reading.Reading.TheVariants as code

-- only a FIS of five dwords is sent, with no ATAPI command and no BIST FIS
abbrev pub is_sendable : CommandHeader → Bool
is_sendable h = h.fis_dwords == 5 && not h.atapi && not h.bist

-- how many bytes a command moves
abbrev pub moved_by : Task → ℕ
moved_by t = action.moved_by (action_of t)

-- whether they go to the device
abbrev pub is_write : Task → Bool
is_write t = action.is_write (action_of t)

-- how many of them are read from the driver's memory
abbrev pub read_by : Task → ℕ
read_by t = if is_write t then moved_by t else 0

-- how far a command is read, and what comes next; the truth value is C of its header. All of it is its PRDT and, of a write, its data
pub data ReadingView : Type 0 where
  Header : (place : ℕ) → ReadingView
  Command : CommandHeader → ReadingView
  Entries : Task → Bool → TableView → (room : ℕ) → ReadingView
  Content : Task → Bool → Gathering → ReadingView
  Whole : Task → Bool → List PrdEntry → List ℕ → ReadingView
  Malformed : ReadingView
  Short : Bool → ReadingView

-- what callers see of the code's value
abbrev pub reading_of : {A : _} → Reading A → ReadingView
reading_of (code.Header place) = Header place
reading_of (code.Command h) = Command h
reading_of (code.Entries t c table room) = Entries t c table room
reading_of (code.Content t c g) = Content t c g
reading_of (code.Whole t c list bytes) = Whole t c list.items bytes.items
reading_of code.Malformed = Malformed
reading_of (code.Short c) = Short c

-- the run that is read next, of no bytes at the end
abbrev pub no_run : Run
no_run = record { address = 0; length = 0 }

abbrev pub next_run : ReadingView → Run
next_run (Header place) = record { address = place; length = 32 }
next_run (Command h) = record { address = h.table; length = 20 }
next_run (Entries t c table room) = record { address = table.address; length = 16 * next_entries table }
next_run (Content t c g) = first_run g.runs
next_run other = no_run

-- the header is read
abbrev pub after_header : CommandHeader → ReadingView
after_header h = if is_sendable h then Command h else Malformed

-- the entries name fewer bytes than the command moves
abbrev pub is_short : Task → List PrdEntry → Bool
is_short t list = nat_lt (total list) (moved_by t)

-- no entry more is read: a write's data come next, and one whose list is too short has none to go on with. A read goes to the device, which
-- sends more than a short list has room for (section 6.1.5)
abbrev pub after_list : Task → Bool → List PrdEntry → ReadingView
after_list t c list =
    if not (is_write t) then Whole t c list []
    else if is_short t list then Short c
    else Content t c (record { list = list; runs = runs list (moved_by t); bytes = [] })

-- the command FIS is read: the PRDT comes next if the command moves data and there is one
abbrev pub after_task : CommandHeader → Task → ReadingView
after_task h t =
    if moved_by t == 0 then Whole t h.clears_busy [] []
    else if h.entries == 0 then after_list t h.clears_busy []
    else Entries t h.clears_busy (unread h.table h.entries (moved_by t)) (read_by t)

abbrev pub after_command : CommandHeader → Option H2dFields → ReadingView
after_command h (Some f) = after_task h (task_of f)
after_command h None = Malformed

-- some entries are read
abbrev pub with_entries : TableView → List ℕ → TableView
with_entries table bytes = record table {
  address = wrapped (table.address + length bytes);
  left = table.left - next_entries table;
  list = table.list ++ entries_in (next_entries table) bytes;
}

-- entries behind the data are not read: none is left, or those that were read name as many bytes as the command moves
abbrev pub after_entries : Task → Bool → TableView → ℕ → ReadingView
after_entries t c table room =
    if table.left == 0 || not (is_short t table.list) then after_list t c table.list else Entries t c table room

-- a run of the data is read
abbrev pub is_none : List Run → Bool
is_none runs = length runs == 0

abbrev pub after_content : Task → Bool → Gathering → ReadingView
after_content t c g = if is_none g.runs then Whole t c g.list g.bytes else Content t c g

-- what is read after these bytes
abbrev pub after_bytes : ReadingView → List ℕ → ReadingView
after_bytes (Header place) bytes = after_header (header_at bytes)
after_bytes (Command h) bytes = after_command h (command_fis bytes)
after_bytes (Entries t c table room) bytes = after_entries t c (with_entries table bytes) room
after_bytes (Content t c g) bytes = after_content t c (record { list = g.list; runs = later_runs g.runs; bytes = g.bytes ++ bytes })
after_bytes other bytes = other

-- memory is allocated with these bytes: with the command FIS of a command that moves data
abbrev pub moves_data : Option H2dFields → Bool
moves_data (Some f) = not (moved_by (task_of f) == 0)
moves_data None = false

abbrev pub allocates : ReadingView → List ℕ → Bool
allocates (Command h) bytes = moves_data (command_fis bytes)
allocates other bytes = false

-- what every stage of the reading keeps: there is room for all that a write's data need, and the list is read as far as the command's data need it
abbrev pub HasRoom : ReadingView → Type 0
HasRoom (Entries t c table room) = (room ≡ read_by t) × (table.needed ≡ moved_by t)
HasRoom other = Unit {0}

-- nothing comes next
abbrev pub is_over : ReadingView → Bool
is_over (Whole t c list bytes) = true
is_over Malformed = true
is_over (Short c) = true
is_over other = false
