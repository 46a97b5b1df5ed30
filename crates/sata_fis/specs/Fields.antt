-- What each FIS carries, and what a queued command asks for, as a contract sees them: the fields of the code's types.
use Rattle.sata_fis.specs.declared.h2d.H2d.TheInside.{Inside as H2dInside}
use Rattle.sata_fis.specs.declared.d2h.D2h.TheInside.{Inside as D2hInside}
use Rattle.sata_fis.specs.declared.pio_setup.PioSetup.TheInside.{Inside as PioSetupInside}
use Rattle.sata_fis.specs.declared.dma_setup.DmaSetup.TheInside.{Inside as DmaSetupInside}
use Rattle.sata_fis.specs.declared.set_bits.SetBits.TheInside.{Inside as SetBitsInside}
use Rattle.sata_fis.specs.declared.command.Queued.TheInside.{Inside as QueuedInside}

-- Register FIS - Host to Device
abbrev pub H2dFields : Type 0
H2dFields = H2dInside

-- Register FIS - Device to Host
abbrev pub D2hFields : Type 0
D2hFields = D2hInside

-- PIO Setup FIS - Device to Host
abbrev pub PioSetupFields : Type 0
PioSetupFields = PioSetupInside

-- DMA Setup FIS
abbrev pub DmaSetupFields : Type 0
DmaSetupFields = DmaSetupInside

-- Set Device Bits FIS - Device to Host
abbrev pub SetBitsFields : Type 0
SetBitsFields = SetBitsInside

-- READ or WRITE FPDMA QUEUED
abbrev pub QueuedFields : Type 0
QueuedFields = QueuedInside
