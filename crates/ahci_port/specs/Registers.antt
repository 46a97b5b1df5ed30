-- What each call of the port does to its registers: the words that software writes and the FISes that the device sends,
-- one after the other (AHCI 1.3.1, sections 3.3 and 6.2.2).
use Rattle.std.specs.Prelude.{ℕ, ◌^◌, true, false, List, bit_or, Result, Ok, Err}
use Rattle.std.specs.List.{fold}
use Rattle.ahci_regs.specs.declared.fault.RegFault.{RegFault}
use Rattle.ahci_regs.specs.PortState.{PortState, first_state}
use Rattle.ahci_regs.specs.Writing.{write_of}
use Rattle.ahci_regs.specs.Receiving.{after_register, after_bits, after_pio, after_pio_end}

-- the state after a write, where a refused write changes nothing
abbrev pub taken : PortState → Result PortState RegFault → PortState
taken s (Ok new) = new
taken s (Err fault) = s

-- the registers after software has written a word to an offset
abbrev pub after_write : PortState → ℕ → ℕ → PortState
after_write s off value = taken s (write_of s off value)

-- a new port: PxCLB, PxFB, then FRE, then ST with it
abbrev pub started : ℕ → PortState
started depth =
    let bases = after_write (after_write (first_state depth) 0x100 0x00010000) 0x108 0x00010400 in
    after_write (after_write bases 0x118 0x10) 0x118 0x11

-- a command is issued: PxSACT, then PxCI
abbrev pub issued : PortState → ℕ → PortState
issued s tag = after_write (after_write s 0x134 (2 ^ tag)) 0x138 (2 ^ tag)

-- a command is accepted: a D2H Register FIS with status 40h and no interrupt
abbrev pub accepted : PortState → ℕ → PortState
accepted s tag = after_register s 0x40 0 false tag

-- a command is refused because it passes the last sector: a D2H Register FIS with ERR and IDNF
abbrev pub refused : PortState → ℕ → PortState
refused s tag = after_register s 0x41 0x10 true tag

-- the word with the bits of some tags
abbrev pub word_of_tags : List ℕ → ℕ
word_of_tags tags = fold (λ word tag. bit_or word (2 ^ tag)) 0 tags

-- the commands of some tags are completed: one Set Device Bits FIS that names them all
abbrev pub completed : PortState → List ℕ → PortState
completed s tags = after_bits s 0x40 0 true (word_of_tags tags)

-- a command fails: a Set Device Bits FIS with ERR and no tag
abbrev pub failed : PortState → ℕ → PortState
failed s error = after_bits s 0x41 error true 0

-- a command of slot 0 that reads by PIO: PxCI, a PIO Setup FIS and the end of its data
abbrev pub read_data : PortState → PortState
read_data s = after_pio_end (after_pio s 0x48 0) 0x40 true 0

abbrev pub read_by_pio : PortState → PortState
read_by_pio s = read_data (after_write s 0x138 1)

-- the port is stopped and started again: ST off, PxSERR and PxIS cleared, ST on
abbrev pub restarted : PortState → PortState
restarted s =
    let stopped = after_write s 0x118 0x10 in
    let cleared = after_write (after_write stopped 0x130 0xffffffff) 0x110 0xffffffff in
    after_write cleared 0x118 0x11

-- recovery: it is restarted, and READ LOG EXT is sent in slot 0
abbrev pub recovered : PortState → PortState
recovered s = read_by_pio (restarted s)

-- interrupts are acknowledged: PxIS
abbrev pub acknowledged : PortState → ℕ → PortState
acknowledged s mask = after_write s 0x110 mask
