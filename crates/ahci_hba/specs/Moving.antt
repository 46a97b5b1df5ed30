-- What a controller reads and writes in the driver's memory, and what follows (AHCI 1.3.1, section 5.3).
use Rattle.std.specs.Prelude.{ℕ, ◌%◌, ◌^◌, Bool, true, false, not, List, [], Some, slice_set, if◌then◌else◌}
use Rattle.hba_memory.specs.DmaWrites.{DmaWritesView, advanced, is_none, remaining}
use Rattle.hba_memory.specs.Reading.{ReadingView, Whole, Malformed, Short, after_bytes, allocates, next_run, no_run}
use Rattle.hba_memory.specs.Runs.{Put, Run, first_put}
use Rattle.hba_regs.specs.HbaState.{HbaState}
use Rattle.hba_regs.specs.InterfaceErrors.{unknown_received}
use Rattle.hba_regs.specs.PortStates.{cfis_success, dr_overflow, err_fatal, pio_entry, pio_update, prd_set_intr, reg_fis_entry, reg_fis_unsolicited, sdb_entry, stuck}
use Rattle.hba_regs.specs.Receiving.{moved, signature_moves, signed}
use Rattle.hba_regs.specs.declared.fatal.Fatal.{Fatal}
use Rattle.hba_regs.specs.declared.fatal.Fatal.TheVariants as fatal
use Rattle.ahci_hba.specs.HbaView.{CommandView, Fetched, HbaView, DmaView, Idle, Fetching, Pio, Block, Writing}
use Rattle.ahci_hba.specs.Transfer.{TransferView, has_interrupt}
use Rattle.ahci_hba.specs.declared.ending.Ending.{Ending}
use Rattle.ahci_hba.specs.declared.last_fis.LastFis.{LastFis}
use Rattle.ahci_hba.specs.declared.last_fis.LastFis.TheVariants as last_fis
use Rattle.ahci_hba.specs.declared.want.Want.{Want}
use Rattle.ahci_hba.specs.declared.want.Want.TheVariants as want

-- what the controller does next with the driver's memory
abbrev pub want_of : DmaView → Want
want_of (Fetching slot r) = want.Read
want_of (Block p t) = want.Write
want_of (Writing p e) = want.Write
want_of other = want.Nothing

-- the run that it reads, of no bytes if it reads none
abbrev pub run_read : DmaView → Run
run_read (Fetching slot r) = next_run r
run_read other = no_run

-- the bytes that it writes and where they go; none if it writes none
abbrev pub nothing_put : Put
nothing_put = record { address = 0; bytes = [] }

abbrev pub put_next : DmaView → Put
put_next (Block p t) = first_put (remaining p)
put_next (Writing p e) = first_put (remaining p)
put_next other = nothing_put

-- where it reads or writes
abbrev pub place_of : DmaView → ℕ
place_of (Fetching slot r) = (next_run r).address
place_of (Block p t) = (first_put (remaining p)).address
place_of (Writing p e) = (first_put (remaining p)).address
place_of other = 0

-- an address of the driver's structures, of which the HBA has 64 bits, or 32 without CAP.S64A: CTBAU and DBAU are taken as 0 then (sections
-- 3.1.1, S64A, 4.2.2 and 4.2.3.3)
abbrev pub in_reach : Bool → ℕ → ℕ
in_reach s64a address = if s64a then address else address % 2 ^ 32

-- the address where it reads or writes
abbrev pub address_of : HbaView → ℕ
address_of h = in_reach h.registers.port.capabilities.s64a (place_of h.dma)

-- a fatal error halts the port, and nothing is read or written any more
abbrev pub failed_fatally : HbaView → Fatal → HbaView
failed_fatally h f = record h { registers = moved h.registers (err_fatal f h.registers.port); dma = Idle }

-- a command that was read is in its slot, and its FIS is sent: with C of its header, BSY and its bit of PxCI are cleared
abbrev pub placed_in : HbaView → ℕ → Bool → CommandView → HbaView
placed_in h slot clears c =
    record h { registers = moved h.registers (cfis_success slot clears h.registers.port); slots = slice_set h.slots slot (Some c); dma = Idle }

-- the command FIS of a write is sent whose list is too short, and the port is stuck: nothing more moves
abbrev pub stuck_with : HbaView → ℕ → Bool → HbaView
stuck_with h slot clears = record h { registers = moved h.registers (stuck slot clears h.registers.port); dma = Idle }

-- how far a slot's command is read: all of it is there, it can't be sent, it is a write whose list is too short, or more comes
abbrev pub read_so_far : HbaView → ℕ → ReadingView → HbaView
read_so_far h slot (Whole t clears list bytes) = placed_in h slot clears (Fetched t list bytes)
read_so_far h slot Malformed = failed_fatally h fatal.Interface
read_so_far h slot (Short clears) = stuck_with h slot clears
read_so_far h slot r = record h { dma = Fetching slot r }

-- the bytes that it reads are there
abbrev pub supplied : HbaView → DmaView → List ℕ → HbaView
supplied h (Fetching slot r) bytes = read_so_far h slot (after_bytes r bytes)
supplied h other bytes = h

-- how an answer ends whose data had room in their list, or not, and had the last byte of an entry with I, or not
abbrev pub ending_of_data : (whole processed : Bool) → LastFis → Ending
ending_of_data whole processed fis = record { overflow = not whole; processed = processed; fis = fis }

-- and one that processes no entry
abbrev pub ending_of : (whole : Bool) → LastFis → Ending
ending_of whole fis = ending_of_data whole false fis

-- memory is allocated with these bytes
abbrev pub allocates_with : DmaView → List ℕ → Bool
allocates_with (Fetching slot r) bytes = allocates r bytes
allocates_with other bytes = false

-- what data without room in their list do to the registers
abbrev pub overflowed : HbaState → Bool → HbaState
overflowed s overflow = if overflow then moved s (dr_overflow s.port) else s

-- and data with the last byte of an entry with I: DPS (sections 3.3.5, DPS, and 4.2.3.3)
abbrev pub processed : HbaState → Bool → HbaState
processed s processes = if processes then moved s (prd_set_intr s.port) else s

-- what the last FIS of an answer does to them
abbrev pub after_data_in : HbaState → ℕ → HbaState
after_data_in s slot = moved s (pio_update 0x40 0 true slot s.port)

unfoldable pub ended_by : HbaState → LastFis → HbaState
ended_by s (last_fis.Register status error i slot) = moved s (reg_fis_entry status error i slot s.port)
ended_by s (last_fis.Bits status error sactive) = moved s (sdb_entry status error true sactive s.port)
ended_by s (last_fis.Pio slot) = after_data_in (moved s (pio_entry 0x48 s.port)) slot
ended_by s (last_fis.Signature kind) = if signature_moves s.port s.port.signature then moved s (signed kind s.port s.port.signature) else s
ended_by s last_fis.Unsolicited = moved s (reg_fis_unsolicited s.port)
ended_by s last_fis.Unknown = moved s (unknown_received s.port)

abbrev pub ended : HbaState → Ending → HbaState
ended s e = ended_by (processed (overflowed s e.overflow) e.processed) e.fis

-- an answer, of which so much is still to be written: with the last byte it takes effect
abbrev pub answering : HbaView → DmaWritesView → Ending → HbaView
answering h p e = if is_none (remaining p) then record h { registers = ended h.registers e; dma = Idle } else record h { dma = Writing p e }

-- a block has moved, and the device is busy with the next one: BSY and DRDY are set, and DRQ is 0
abbrev pub setup_taken : HbaState → HbaState
setup_taken s = moved s (pio_entry 0x48 s.port)

abbrev pub after_block_of : HbaState → TransferView → HbaState
after_block_of s t = moved s (pio_update 0xC0 0 (has_interrupt t) t.slot s.port)

unfoldable pub block_ended : HbaState → TransferView → HbaState
block_ended s t = after_block_of (setup_taken (processed (overflowed s t.short) t.processed)) t

-- a block of a transfer, of which so much is still to be written: with the last byte it has moved
abbrev pub blocking : HbaView → DmaWritesView → TransferView → HbaView
blocking h p t = if is_none (remaining p) then record h { registers = block_ended h.registers t; dma = Pio t } else record h { dma = Block p t }

-- the bytes that it writes are written
abbrev pub put_done : HbaView → DmaView → HbaView
put_done h (Block p t) = blocking h (advanced p) t
put_done h (Writing p e) = answering h (advanced p) e
put_done h other = h

-- an access to memory ends in a fatal error; where nothing is read or written, there is none
abbrev pub host_failed : Fatal → HbaView → DmaView → HbaView
host_failed fatal h (Fetching slot r) = failed_fatally h fatal
host_failed fatal h (Block p t) = failed_fatally h fatal
host_failed fatal h (Writing p e) = failed_fatally h fatal
host_failed fatal h other = h

-- the address is no memory: a pointer of the driver's that is bad, HBFS (sections 3.3.5, HBFS, and 6.1)
abbrev pub unmapped : HbaView → DmaView → HbaView
unmapped h w = host_failed fatal.HostBusFatal h w

-- memory itself can't give or take the data, as with an error that its check bits can't correct: HBDS (sections 3.3.5, HBDS, and 6.1)
abbrev pub spoiled : HbaView → DmaView → HbaView
spoiled h w = host_failed fatal.HostBusData h w
