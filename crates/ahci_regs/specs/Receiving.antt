-- What a FIS from the device does to the registers (AHCI 1.3.1, sections 3.3.5, 3.3.8, 3.3.13 and 3.3.14).
use Rattle.std.specs.Prelude.{ℕ, ◌^◌, Bool, not, ◌||◌, List, bit_and, bit_or, if◌then◌else◌}
use Rattle.word_bits.specs.Places.{bits, has_place, without_place, union, minus}
use Rattle.ahci_regs.specs.PortState.{PortState}

-- ERR of a status
abbrev pub has_error : ℕ → Bool
has_error status = has_place (bits status) 0

-- a status with BSY, DRQ and ERR 0: the device has ended the command, or has queued it
abbrev pub is_done : ℕ → Bool
is_done status = not (has_place (bits status) 7 || has_place (bits status) 3 || has_place (bits status) 0)

-- the interrupts that a FIS raises (AHCI 1.3.1, section 3.3.5): DHRS is bit 0 of PxIS, PSS 1, SDBS 3, TFES 30
abbrev pub dhrs : List Bool
dhrs = bits (2 ^ 0)

abbrev pub pss : List Bool
pss = bits (2 ^ 1)

abbrev pub sdbs : List Bool
sdbs = bits (2 ^ 3)

abbrev pub tfes : List Bool
tfes = bits (2 ^ 30)

-- PxIS with one interrupt more, where it is raised
abbrev pub raised : Bool → List Bool → List Bool → List Bool
raised b interrupt s = if b then union s interrupt else s

-- PxCI after a status for a slot's command
abbrev pub ended : ℕ → ℕ → List Bool → List Bool
ended status tag s = if is_done status then without_place s tag else s

-- D2H Register FIS for a slot: DHRS follows I, TFES is raised by ERR
abbrev pub after_register : PortState → ℕ → ℕ → Bool → ℕ → PortState
after_register s status error i tag =
    record s { sts = status; err = error; is = raised (has_error status) tfes (raised i dhrs s.is); ci = ended status tag s.ci }

-- the status after a Set Device Bits FIS: BSY and DRQ stay, the other bits are those of the FIS
abbrev pub status_after_bits : ℕ → ℕ → ℕ
status_after_bits sts status = bit_or (bit_and sts 0x88) (bit_and status 0x77)

-- Set Device Bits FIS: the commands in SActive are done; SDBS follows I, TFES is raised by ERR
abbrev pub after_bits : PortState → ℕ → ℕ → Bool → ℕ → PortState
after_bits s status error i sactive =
    record s { sts = status_after_bits s.sts status; err = error; is = raised (has_error status) tfes (raised i sdbs s.is); sact = minus s.sact (bits sactive) }

-- PIO Setup FIS, before its data: TFES is raised by ERR
abbrev pub after_pio : PortState → ℕ → ℕ → PortState
after_pio s status error = record s { sts = status; err = error; is = raised (has_error status) tfes s.is }

-- the end of a PIO Setup FIS's data, for a slot: its E_Status comes to bear; PSS follows I, TFES is raised by ERR
abbrev pub after_pio_end : PortState → ℕ → Bool → ℕ → PortState
after_pio_end s e_status i tag =
    record s { sts = e_status; is = raised (has_error e_status) tfes (raised i pss s.is); ci = ended e_status tag s.ci }
