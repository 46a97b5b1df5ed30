-- How the answer to a command is put together (AHCI 1.3.1, sections 4.2.1, 4.2.2, 5.3 and 6.1.5; Serial ATA, "FIS types").
use Rattle.std.specs.Prelude.{ℕ, ◌+◌, ◌*◌, ◌^◌, Bool, true, false, nat_eq, List, [], ◌∷◌, Option, None, Some, if◌then◌else◌, not, ◌||◌}
use Rattle.std.specs.Int.{byte_at}
use Rattle.sata_fis.specs.Encoding.{d2h_bytes, pio_setup_bytes}
use Rattle.sata_fis.specs.Fields.{D2hFields, PioSetupFields}
use Rattle.hba_command.specs.Action.{action_of}
use Rattle.hba_command.specs.MultipleMode.{block_sectors}
use Rattle.hba_command.specs.declared.action.Action.{Action}
use Rattle.hba_command.specs.declared.action.Action.TheVariants as action
use Rattle.hba_command.specs.declared.entry.PrdEntry.{PrdEntry}
use Rattle.hba_command.specs.declared.protocol.Protocol.{Protocol}
use Rattle.hba_command.specs.declared.protocol.Protocol.TheVariants.{Dma as ByDma}
use Rattle.hba_command.specs.declared.task.Task.{Task}
use Rattle.hba_memory.specs.Blocks.{BlocksView, block_puts}
use Rattle.hba_memory.specs.DmaWrites.{DmaWritesView}
use Rattle.hba_memory.specs.Processing.{has_processed}
use Rattle.hba_memory.specs.Reading.{is_write}
use Rattle.hba_memory.specs.Runs.{Put, placed}
use Rattle.hba_memory.specs.Table.{wrapped}
use Rattle.hba_regs.specs.HbaState.{HbaState}
use Rattle.ahci_port.specs.PortView.{PortView}
use Rattle.ahci_table.specs.Text.{text}
use Rattle.ahci_table.specs.Window.{WindowState}
use Rattle.ahci_hba.specs.HbaView.{HbaView, DmaView, Idle, Served, Pio}
use Rattle.ahci_hba.specs.Logging.{logging, logs_behind}
use Rattle.ahci_hba.specs.Moving.{answering, blocking, ending_of_data}
use Rattle.ahci_hba.specs.Queueing.{fis_put}
use Rattle.ahci_hba.specs.Transfer.{TransferView, first_block, fits, has_interrupt, is_last, moved_so_far, moved_to, next_block, next_list, next_processes, next_sectors, sends_block}
use Rattle.ahci_hba.specs.declared.last_fis.LastFis.{LastFis}
use Rattle.ahci_hba.specs.declared.last_fis.LastFis.TheVariants as last_fis

-- bytes at a place of the driver's received FIS area, while FRE is 1
abbrev pub received_put : HbaState → ℕ → List ℕ → List Put
received_put s place bytes = if s.port.fre then (record { address = wrapped (s.port.fb + place); bytes = bytes }) ∷ [] else []

-- PRDBC of a slot's header: how many bytes were moved
abbrev pub word_bytes : ℕ → List ℕ
word_bytes n = byte_at 0 n ∷ byte_at 1 n ∷ byte_at 2 n ∷ byte_at 3 n ∷ []

abbrev pub count_put : HbaState → ℕ → ℕ → List Put
count_put s slot n = (record { address = wrapped (s.port.clb + 32 * slot + 4); bytes = word_bytes n }) ∷ []

-- D2H Register FISes with I: a status, an error, an LBA and a count
abbrev pub d2h_fis : ℕ → ℕ → ℕ → ℕ → D2hFields
d2h_fis status error lba count = record { i = true; status = status; error = error; lba = lba; device = 0; count = count }

-- a command is done
abbrev pub done : D2hFields
done = d2h_fis 0x40 0 0 0

-- or is aborted
abbrev pub aborted : D2hFields
aborted = d2h_fis 0x41 0x04 0 0

-- a D2H Register FIS that ends a slot's command
abbrev pub fis_ending : ℕ → D2hFields → LastFis
fis_ending slot fis = last_fis.Register fis.status fis.error true slot

-- PIO Setup FISes: status 48h is DRDY with DRQ; a block of so many sectors comes, or is asked for
abbrev pub setup_fis : (d i : Bool) → (e_status sectors : ℕ) → PioSetupFields
setup_fis d i e_status n = record { i = i; d = d; status = 0x48; error = 0; lba = 0; device = 0; count = 0; e_status = e_status; bytes = 512 * n }

abbrev pub setup_put : HbaState → (d i : Bool) → (e_status sectors : ℕ) → List Put
setup_put s d i e_status n = received_put s 0x20 (pio_setup_bytes (setup_fis d i e_status n))

-- a queued command: a DMA Setup FIS, the data of a read, and a Set Device Bits FIS. So many bytes have moved, to the driver or from it
abbrev pub queued_writes : HbaState → PortView → List Put → DmaWritesView
queued_writes s port content =
    record { before = fis_put s port 0x00 28; content = content; count = []; after = fis_put s port 0x58 8 }

abbrev pub queued_answer : HbaView → ℕ → List PrdEntry → List ℕ → (whole : Bool) → ℕ → HbaView
queued_answer h slot list bytes whole n =
    answering h (queued_writes h.registers h.port (placed list bytes)) (ending_of_data whole (has_processed list n) (last_fis.Bits 0x40 0 (2 ^ slot)))

-- a read by DMA: the data, PRDBC, and a D2H Register FIS
abbrev pub read_writes : HbaState → ℕ → List Put → ℕ → D2hFields → DmaWritesView
read_writes s slot content moved fis =
    record { before = []; content = content; count = count_put s slot moved; after = received_put s 0x40 (d2h_bytes fis) }

abbrev pub read_answer : HbaView → ℕ → List PrdEntry → List ℕ → ℕ → D2hFields → HbaView
read_answer h slot list bytes n fis =
    answering h (read_writes h.registers slot (placed list bytes) (moved_to n list) fis)
    (ending_of_data (fits n list) (has_processed list n) (fis_ending slot fis))

-- the end of a command whose data have moved, with the last byte of an entry with I or not: PRDBC, and a D2H Register FIS
abbrev pub closing : HbaView → ℕ → ℕ → (processed : Bool) → D2hFields → HbaView
closing h slot n processed fis = answering h (read_writes h.registers slot [] n fis) (ending_of_data true processed (fis_ending slot fis))

-- a page by PIO: a PIO Setup FIS, the page, and PRDBC
abbrev pub page_writes : HbaState → ℕ → List Put → ℕ → DmaWritesView
page_writes s slot content moved = record { before = setup_put s true true 0x40 1; content = content; count = count_put s slot moved; after = [] }

abbrev pub page_answer : HbaView → ℕ → List PrdEntry → List ℕ → HbaView
page_answer h slot list page =
    answering h (page_writes h.registers slot (placed list page) (moved_to 512 list))
    (ending_of_data (fits 512 list) (has_processed list 512) (last_fis.Pio slot))

-- a transfer by PIO begins, of so many sectors in blocks of at most so many
abbrev pub beginning : HbaView → ℕ → Bool → (n most : ℕ) → BlocksView → Option D2hFields → HbaView
beginning h slot write n most rest finish =
    record h { dma = Pio (first_block slot write n most rest finish) }

-- the same for a command that moves its data so: of READ and WRITE MULTIPLE a block has what SET MULTIPLE MODE has set
abbrev pub beginning_by : HbaView → ℕ → Protocol → Bool → ℕ → BlocksView → Option D2hFields → HbaView
beginning_by h slot p write n rest finish = beginning h slot write n (block_sectors h.device.multiple p) rest finish

-- the bytes that go to the driver: those of a read, none of a write
abbrev pub bytes_for : Task → WindowState → List ℕ
bytes_for t w = if is_write t then [] else text w

abbrev pub delivered : DmaView → List ℕ
delivered (Served slot t w list) = bytes_for t w
delivered other = []

-- the answer to a queued command; the list of a write has room for its data
abbrev pub queue_answer : HbaView → ℕ → Bool → List PrdEntry → List ℕ → ℕ → HbaView
queue_answer h slot write list bytes n = queued_answer h slot list bytes (write || fits n list) n

-- to one that moves sectors
abbrev pub dma_answer : HbaView → ℕ → Bool → List PrdEntry → List ℕ → ℕ → HbaView
dma_answer h slot write list bytes n = if write then closing h slot n (has_processed list n) done else read_answer h slot list bytes n done

abbrev pub finish_of : Bool → Option D2hFields
finish_of write = if write then Some done else None

abbrev pub sectors_answer : HbaView → ℕ → Protocol → Bool → List PrdEntry → List ℕ → (sectors : ℕ) → HbaView
sectors_answer h slot ByDma write list bytes n = dma_answer h slot write list bytes (512 * n)
sectors_answer h slot p write list bytes n = beginning_by h slot p write n (record { list = list; bytes = bytes }) (finish_of write)

-- the answer to a command that the port has done, with a read's bytes: it does queued ones and those that move sectors
abbrev pub answer_with : HbaView → ℕ → List PrdEntry → List ℕ → Action → HbaView
answer_with h slot list bytes (action.Queue q) = queue_answer h slot q.write list bytes (512 * q.sectors)
answer_with h slot list bytes (action.Sectors write span p) = sectors_answer h slot p write list bytes span.sectors
answer_with h slot list bytes (action.Page page p) = closing h slot 0 false done
answer_with h slot list bytes (action.Store s p) = closing h slot 0 false done
answer_with h slot list bytes (action.Flush a) = closing h slot 0 false done
answer_with h slot list bytes (action.Reply r) = closing h slot 0 false done
answer_with h slot list bytes (action.Control reset) = closing h slot 0 false done
answer_with h slot list bytes action.Abort = closing h slot 0 false done

-- a block of a write, of so many sectors, which the transfer has behind it then
abbrev pub only_before : List Put → DmaWritesView
only_before puts = record { before = puts; content = []; count = []; after = [] }

abbrev pub block_out : HbaView → (sectors : ℕ) → TransferView → HbaView
block_out h n t = blocking h (only_before (setup_put h.registers false (has_interrupt t) 0xC0 n)) t

-- a block to the driver: a PIO Setup FIS, the block, and PRDBC with the bytes so far
abbrev pub block_writes : HbaState → TransferView → ℕ → DmaWritesView
block_writes s t e_status =
    record {
      before = setup_put s true true e_status (next_sectors t);
      content = block_puts t.rest (next_sectors t);
      count = count_put s t.slot (moved_so_far t);
      after = [];
    }

abbrev pub block_in : HbaView → TransferView → HbaView
block_in h t =
    if is_last t then
    answering h (block_writes h.registers t 0x40) (ending_of_data (fits (512 * next_sectors t) (next_list t)) (next_processes t) (last_fis.Pio t.slot))
    else blocking h (block_writes h.registers t 0xC0) (next_block t)

-- all blocks have moved, and each has set DPS if it had to; a log of the host's is written now
abbrev pub finishing : HbaView → TransferView → Option D2hFields → HbaView
finishing h t None = record h { dma = Idle }
finishing h t (Some fis) = closing (logging h (logs_behind t.logs h.logs)) t.slot t.moved false fis

-- the next step of a transfer
abbrev pub going_on : HbaView → TransferView → HbaView
going_on h t =
    if nat_eq t.left 0 then finishing h t t.finish
    else if t.write then block_out h (next_sectors t) (next_block t)
    else block_in h t

-- the block that it moves to the driver next
abbrev pub block_content : TransferView → List Put
block_content t = if sends_block t then block_puts t.rest (next_sectors t) else []

abbrev pub content_of : DmaView → List Put
content_of (Pio t) = block_content t
content_of other = []

-- data of a read go to the driver next, for which memory is allocated
abbrev pub sends_data : DmaView → Bool
sends_data (Served slot t w list) = not (is_write t)
sends_data (Pio t) = sends_block t
sends_data other = false

-- the answer to the command that the port has done; of a transfer by PIO the next block, while FRE is 1
abbrev pub served_answer : HbaView → DmaView → HbaView
served_answer h (Served slot t w list) = answer_with h slot list (bytes_for t w) (action_of t)
served_answer h other = h

abbrev pub stepped_on : HbaView → DmaView → HbaView
stepped_on h (Pio t) = going_on h t
stepped_on h other = h

abbrev pub gone_on : HbaView → DmaView → HbaView
gone_on h w = if h.registers.port.fre then stepped_on h w else h

abbrev pub is_pio : DmaView → Bool
is_pio (Pio t) = true
is_pio other = false

abbrev pub answered : HbaView → DmaView → HbaView
answered h w = if is_pio w then gone_on h w else served_answer h w
