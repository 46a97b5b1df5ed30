-- The word that a read of each register gives (AHCI 1.3.1, sections 3.1 and 3.3).
use Rattle.std.specs.Prelude.{ℕ, ◌+◌, ◌-◌, ◌*◌, ◌/◌, ◌%◌, ◌^◌, Bool, Option, Some, None, if◌then◌else◌}
use Rattle.word_bits.specs.Places.{word_of}
use Rattle.hba_regs.specs.CapFields.{CapFields}
use Rattle.hba_regs.specs.HbaState.{HbaPort, HbaState}
use Rattle.hba_regs.specs.Interrupts.{interrupts}
use Rattle.hba_regs.specs.RegisterTable.{register_at}
use Rattle.hba_regs.specs.declared.link.Link.{Link}
use Rattle.hba_regs.specs.declared.link.Link.TheVariants.{Up, Listening, InReset, Offline}
use Rattle.hba_regs.specs.declared.register.Register.{Register}
use Rattle.hba_regs.specs.declared.register.Register.TheVariants.{Cap, Ghc, Is, Pi, Vs, PxClb, PxClbu, PxFb, PxFbu, PxIs, PxIe, PxCmd, PxTfd, PxSig, PxSsts, PxSctl, PxSerr, PxSact, PxCi}

-- one bit at its place in a word
abbrev pub bit_word : Bool → ℕ → ℕ
bit_word b i = if b then 2 ^ i else 0

-- CAP: S64A (bit 31), SNCQ (30), SSS (27), SALP (26), SCLO (24), ISS (23:20), SAM (18), PMD (15), NCS (12:8), the number of slots less 1;
-- one port
abbrev pub capabilities_word : CapFields → ℕ
capabilities_word c =
    bit_word c.s64a 31 + bit_word c.sncq 30 + bit_word c.sss 27 + bit_word c.salp 26 + bit_word c.sclo 24 + c.iss * 2 ^ 20 + 2 ^ 18
    + bit_word c.pmd 15 + (c.ncs - 1) * 2 ^ 8

-- PxCMD: ST (bit 0), SUD (1), POD (2), FRE (4), CCS (12:8) while ST is 1, FR (14), which follows FRE, CR (15), which follows ST, ATAPI
-- (24), DLAE (25), ALPE (26), ASP (27)
abbrev pub command_word : HbaPort → ℕ
command_word p =
    4 + bit_word p.st 0 + bit_word p.sud 1 + bit_word p.fre 4 + (if p.st then p.ccs * 2 ^ 8 else 0) + bit_word p.fre 14 + bit_word p.st 15
    + bit_word p.atapi 24 + bit_word p.dlae 25 + bit_word p.alpe 26 + bit_word p.asp 27

-- PxSSTS: device present (DET 3), its generation (SPD), active (IPM 1); nothing; interface disabled (DET 4)
abbrev pub link_word : Link → ℕ → ℕ
link_word Up speed = 0x103 + 2 ^ 4 * speed
link_word Listening speed = 0
link_word InReset speed = 0
link_word Offline speed = 4

-- the word of each register
abbrev pub word_at : HbaState → Register → ℕ
word_at s Cap = capabilities_word s.port.capabilities
word_at s Ghc = 2 ^ 31 + bit_word s.ghc_ie 1
word_at s Is = bit_word s.ips 0
word_at s Pi = 0x00000001
word_at s Vs = 0x00010301
word_at s PxClb = s.port.clb % 2 ^ 32
word_at s PxClbu = s.port.clb / 2 ^ 32
word_at s PxFb = s.port.fb % 2 ^ 32
word_at s PxFbu = s.port.fb / 2 ^ 32
word_at s PxIs = word_of (interrupts s.port)
word_at s PxIe = word_of s.port.ie
word_at s PxCmd = command_word s.port
word_at s PxTfd = s.port.err * 2 ^ 8 + s.port.sts
word_at s PxSig = s.port.sig
word_at s PxSsts = link_word s.port.link s.port.speed
word_at s PxSctl = s.port.sctl
word_at s PxSerr = word_of s.port.serr
word_at s PxSact = word_of s.port.sact
word_at s PxCi = word_of s.port.ci

-- a register that isn't there is 0
abbrev pub word_or_zero : HbaState → Option Register → ℕ
word_or_zero s (Some register) = word_at s register
word_or_zero s None = 0

-- the word at an offset that is a multiple of 4
abbrev pub word_of_offset : HbaState → ℕ → ℕ
word_of_offset s off = word_or_zero s (register_at off)
