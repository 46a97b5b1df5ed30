-- The word that a read of each register gives (AHCI 1.3.1, sections 3.1 and 3.3).
use Rattle.std.specs.Prelude.{ℕ, ◌+◌, ◌-◌, ◌*◌, ◌^◌, Bool, Result, Ok, Err, if◌then◌else◌}
use Rattle.word_bits.specs.Places.{word_of}
use Rattle.ahci_regs.specs.PortState.{PortState}
use Rattle.ahci_regs.specs.RegisterTable.{register_at}
use Rattle.ahci_regs.specs.declared.fault.RegFault.{RegFault}
use Rattle.ahci_regs.specs.declared.register.Register.{Register}
use Rattle.ahci_regs.specs.declared.register.Register.TheVariants.{Cap, Ghc, Pi, Vs, PxClb, PxClbu, PxFb, PxFbu, PxIs, PxIe, PxCmd, PxTfd, PxSig, PxSsts, PxSctl, PxSerr, PxSact, PxCi}

-- one bit at its place in a word
abbrev pub bit_word : Bool → ℕ → ℕ
bit_word b i = if b then 2 ^ i else 0

-- CAP: the number of slots less one in bits 12:8, and SNCQ in bit 30
abbrev pub capabilities_word : ℕ → ℕ
capabilities_word depth = (depth - 1) * 2 ^ 8 + 2 ^ 30

-- PxCMD: ST in bit 0, FRE in bit 4; FR in bit 14 follows FRE, and CR in bit 15 follows ST
abbrev pub command_word : Bool → Bool → ℕ
command_word st fre = bit_word st 0 + bit_word fre 4 + bit_word fre 14 + bit_word st 15

-- PxTFD: STS in bits 7:0, ERR in bits 15:8
abbrev pub task_file_word : ℕ → ℕ → ℕ
task_file_word sts err = err * 2 ^ 8 + sts

-- the word of each register
abbrev pub word_at : PortState → Register → ℕ
word_at s Cap = capabilities_word s.depth
word_at s Ghc = 0x80000000
word_at s Pi = 0x00000001
word_at s Vs = 0x00010301
word_at s PxClb = s.clb
word_at s PxClbu = 0
word_at s PxFb = s.fb
word_at s PxFbu = 0
word_at s PxIs = word_of s.is
word_at s PxIe = word_of s.ie
word_at s PxCmd = command_word s.st s.fre
word_at s PxTfd = task_file_word s.sts s.err
word_at s PxSig = 0x00000101
word_at s PxSsts = 0x00000123
word_at s PxSctl = 0
word_at s PxSerr = 0
word_at s PxSact = word_of s.sact
word_at s PxCi = word_of s.ci

-- what a read answers, once its offset is known to be a register's or at fault
abbrev pub read_at : PortState → Result Register RegFault → Result ℕ RegFault
read_at s (Ok register) = Ok (word_at s register)
read_at s (Err fault) = Err fault

-- what a read of an offset answers
abbrev pub read_of : PortState → ℕ → Result ℕ RegFault
read_of s off = read_at s (register_at off)
