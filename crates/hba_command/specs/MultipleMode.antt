-- How many sectors a DRQ data block has (ACS-3, "SET MULTIPLE MODE" and "READ MULTIPLE"; Serial ATA, "Data", whose payload is 8,192 bytes at most).
use Rattle.std.specs.Prelude.{ℕ, ◌+◌, ◌==◌, Bool, false, max, if◌then◌else◌}
use Rattle.hba_command.specs.declared.multiple_mode.MultipleMode.{MultipleMode}
use Rattle.hba_command.specs.declared.multiple_mode.MultipleMode.TheVariants.{Disabled, One, Two, Four, Eight, Sixteen}
use Rattle.hba_command.specs.declared.protocol.Protocol.{Protocol}
use Rattle.hba_command.specs.declared.protocol.Protocol.TheVariants.{Pio, Multiple, Dma}

-- the sectors of a block of READ and WRITE MULTIPLE; while these are disabled there is no such block
abbrev pub multiple_sectors : MultipleMode → ℕ
multiple_sectors Disabled = 0
multiple_sectors One = 1
multiple_sectors Two = 2
multiple_sectors Four = 4
multiple_sectors Eight = 8
multiple_sectors Sixteen = 16

-- the sectors of a block of a command, which are one sector but for READ and WRITE MULTIPLE
abbrev pub block_sectors : MultipleMode → Protocol → ℕ
block_sectors m Multiple = max (multiple_sectors m) 1
block_sectors m Pio = 1
block_sectors m Dma = 1

-- while no block size is set, READ and WRITE MULTIPLE are aborted ("READ MULTIPLE")
abbrev pub lacks_blocks : MultipleMode → Protocol → Bool
lacks_blocks m Multiple = multiple_sectors m == 0
lacks_blocks m Pio = false
lacks_blocks m Dma = false

-- word 59 of IDENTIFY DEVICE: bit 8 says that a block size is set, and bits 7:0 which
abbrev pub multiple_word : MultipleMode → ℕ
multiple_word m = if multiple_sectors m == 0 then 0 else 0x0100 + multiple_sectors m
