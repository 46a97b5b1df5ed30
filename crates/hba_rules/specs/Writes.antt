-- Which rules a word breaks that a driver writes to a register, as tables: a row for each rule of a register, whose conditions are on the
-- registers as they are before the write, and on the word (AHCI 1.3.1, chapters 3, 5, 6 and 10).
use Rattle.std.specs.Prelude.{ℕ, ◌-◌, ◌*◌, ◌/◌, ◌%◌, ◌^◌, Bool, true, false, not, ◌&&◌, ◌||◌, nat_eq, nat_lt, bit_and, bit_or, List, [], ◌∷◌, if◌then◌else◌}
use Rattle.hba_regs.specs.HbaState.{HbaState}
use Rattle.hba_regs.specs.Reading.{word_at}
use Rattle.hba_regs.specs.declared.register.Register.{Register}
use Rattle.hba_regs.specs.declared.register.Register.TheVariants.{Cap, Ghc, Is, PxClb, PxClbu, PxFb, PxFbu, PxIs, PxIe, PxCmd, PxTfd, PxSsts, PxSctl, PxSerr, PxSact, PxCi}
use Rattle.hba_rules.specs.declared.rule.Rule.{Rule}
use Rattle.hba_rules.specs.declared.rule.Rule.TheVariants as rule

-- some bit of a mask is 1 in a word
abbrev pub any_of : ℕ → ℕ → Bool
any_of word mask = not (nat_eq (bit_and word mask) 0)

-- some bit of a word is not in a mask
abbrev pub exceeds : ℕ → ℕ → Bool
exceeds word mask = not (nat_eq (bit_and word mask) word)

-- a condition on the registers as they are, and on the word
abbrev pub Condition : Type 0
Condition = HbaState → ℕ → Bool

-- some of these bits of a register are 1; all are 0
abbrev pub has : Register → ℕ → Condition
has register mask s word = any_of (word_at s register) mask

abbrev pub lacks : Register → ℕ → Condition
lacks register mask s word = not (any_of (word_at s register) mask)

-- some of these bits of the word are 1; all are 0
abbrev pub writes : ℕ → Condition
writes mask s word = any_of word mask

abbrev pub leaves : ℕ → Condition
leaves mask s word = not (any_of word mask)

-- the word has a bit that the register has
abbrev pub repeats : Register → Condition
repeats register s word = any_of word (word_at s register)

-- the word, down to a multiple of a unit, is another than the register's
abbrev pub moves : (unit : ℕ) → Register → Condition
moves unit register s word = not (nat_eq (word / unit * unit) (word_at s register))

-- these bits of the word are others than those of the register
abbrev pub alters : Register → ℕ → Condition
alters register mask s word = not (nat_eq (bit_and word mask) (bit_and (word_at s register) mask))

-- a field of the register, a mask, has another value
abbrev pub is_not : Register → (mask value : ℕ) → Condition
is_not register mask value s word = not (nat_eq (bit_and (word_at s register) mask) value)

-- the port has stopped for an error
abbrev pub is_halted : Condition
is_halted s word = s.port.halted

-- DET of PxSCTL, bits 3:0, has no value but 0, 1 and 4
abbrev pub is_state : ℕ → Bool
is_state det = nat_eq det 0 || nat_eq det 1 || nat_eq det 4

abbrev pub reserved_state : ℕ → Bool
reserved_state word = not (is_state (bit_and word 0xf))

abbrev pub has_reserved_state : Condition
has_reserved_state s word = reserved_state word

-- SPD of PxSCTL, bits 7:4, above ISS of CAP, bits 23:20
abbrev pub has_more_speed : Condition
has_more_speed s word = nat_lt (word_at s Cap / 2 ^ 20 % 16) (word / 2 ^ 4 % 16)

-- ICC of PxCMD, bits 31:28: 0 and 1 always, 2 (partial) with CAP.PSC (bit 13), 6 (slumber) with CAP.SSC (bit 14)
abbrev pub has_state : (icc cap : ℕ) → Bool
has_state icc cap = nat_eq icc 0 || nat_eq icc 1 || (nat_eq icc 2 && any_of cap 0x2000) || (nat_eq icc 6 && any_of cap 0x4000)

-- ALPE (26) and ASP (27) want CAP.SALP (bit 26); with ALPE the HBA initiates slumber if ASP is 1, which wants CAP.SSC, and else partial, which wants CAP.PSC
abbrev pub has_management : (word cap : ℕ) → Bool
has_management word cap =
    not (any_of word 0x0c000000) || (any_of cap 0x04000000 && (not (any_of word 0x04000000) || any_of cap (if any_of word 0x08000000 then 0x4000 else 0x2000)))

-- a state or what initiates it is missing
abbrev pub lacks_power : Condition
lacks_power s word = not (has_state (word / 2 ^ 28) (word_at s Cap)) || not (has_management word (word_at s Cap))

-- a slot of the word was issued, and is not active
abbrev pub follows_issue : Condition
follows_issue s word = exceeds (bit_and word (word_at s PxCi)) (word_at s PxSact)

-- the word has a slot that the command list has not: the list has CAP.NCS of them
abbrev pub is_above_list : Condition
is_above_list s word = exceeds word (2 ^ s.port.capabilities.ncs - 1)

-- the word enables what PxIS has and PxIE does not yet enable
abbrev pub enables_old : Condition
enables_old s word = exceeds (bit_and word (word_at s PxIs)) (word_at s PxIe)

-- a queued command is outstanding, and one that is not queued: a bit of PxSACT, and a bit of PxCI that PxSACT does not have
abbrev pub is_mixed : (sact ci : ℕ) → Bool
is_mixed sact ci = not (nat_eq sact 0) && exceeds ci sact

-- this begins with a word for PxSACT, or for PxCI
abbrev pub mixes_active : Condition
mixes_active s word = is_mixed (bit_or (word_at s PxSact) word) (word_at s PxCi) && not (is_mixed (word_at s PxSact) (word_at s PxCi))

abbrev pub mixes_issued : Condition
mixes_issued s word = is_mixed (word_at s PxSact) (bit_or (word_at s PxCi) word) && not (is_mixed (word_at s PxSact) (word_at s PxCi))

-- an enabled interrupt of the port
abbrev pub interrupts : Condition
interrupts s word = any_of (word_at s PxIs) (word_at s PxIe)

-- no condition: what is asked is not broken here
abbrev pub never : Condition
never s word = false

-- all conditions hold
abbrev pub all : List Condition → Condition
all [] s word = true
all (c ∷ rest) s word = c s word && all rest s word

-- of PxCMD: ST (bit 0), CLO (3) and FRE (4); BSY and DRQ of PxTFD are bits 7 and 3; DET of PxSSTS is 3 once a device communicates; TFES,
-- HBFS, HBDS and IFS of PxIS are bits 30:27
abbrev pub command_row : Rule → List Condition
command_row rule.StartWithoutReceiving = writes 0x01 ∷ lacks PxCmd 0x01 ∷ leaves 0x10 ∷ []
command_row rule.StartWithReceiving = writes 0x01 ∷ lacks PxCmd 0x01 ∷ writes 0x10 ∷ lacks PxCmd 0x10 ∷ []
command_row rule.StartWhileBusy = writes 0x01 ∷ lacks PxCmd 0x01 ∷ has PxTfd 0x88 ∷ []
command_row rule.StartWithoutDevice = writes 0x01 ∷ lacks PxCmd 0x01 ∷ is_not PxSsts 0xf 3 ∷ []
command_row rule.StartWithErrors = writes 0x01 ∷ lacks PxCmd 0x01 ∷ has PxIs 0x78000000 ∷ []
command_row rule.StartWithSerr = writes 0x01 ∷ lacks PxCmd 0x01 ∷ has PxSerr 0xffffffff ∷ []
command_row rule.ReceivingClearedWhileStarted = has PxCmd 0x01 ∷ has PxCmd 0x10 ∷ leaves 0x10 ∷ []
command_row rule.ClearBusyWhileStarted = has PxCmd 0x01 ∷ writes 0x08 ∷ []
command_row rule.PowerWithoutCapability = lacks_power ∷ []
command_row other = never ∷ []

-- of PxCLB: bits 9:0 are reserved, so that a list is a multiple of 1,024
abbrev pub list_row : Rule → List Condition
list_row rule.ListMovedWhileStarted = has PxCmd 0x01 ∷ moves 1024 PxClb ∷ []
list_row rule.ListUnaligned = writes 0x3ff ∷ []
list_row other = never ∷ []

abbrev pub high_list_row : Rule → List Condition
high_list_row rule.ListMovedWhileStarted = has PxCmd 0x01 ∷ moves 1 PxClbu ∷ []
high_list_row other = never ∷ []

-- of PxFB: bits 7:0 are reserved, so that the received FIS area is a multiple of 256
abbrev pub area_row : Rule → List Condition
area_row rule.AreaMovedWhileReceiving = has PxCmd 0x10 ∷ moves 256 PxFb ∷ []
area_row rule.AreaUnaligned = writes 0xff ∷ []
area_row other = never ∷ []

abbrev pub high_area_row : Rule → List Condition
high_area_row rule.AreaMovedWhileReceiving = has PxCmd 0x10 ∷ moves 1 PxFbu ∷ []
high_area_row other = never ∷ []

-- of PxSCTL
abbrev pub link_row : Rule → List Condition
link_row rule.LinkChangedWhileStarted = has PxCmd 0x01 ∷ alters PxSctl 0xf ∷ []
link_row rule.ReservedLinkState = has_reserved_state ∷ []
link_row rule.SpeedAboveInterface = has_more_speed ∷ []
link_row other = never ∷ []

-- of PxSACT; SNCQ is bit 30 of CAP
abbrev pub active_row : Rule → List Condition
active_row rule.ActiveWhileStopped = lacks PxCmd 0x01 ∷ writes 0xffffffff ∷ []
active_row rule.QueueWithoutCapability = lacks Cap 0x40000000 ∷ writes 0xffffffff ∷ []
active_row rule.SlotUsedAgain = repeats PxSact ∷ []
active_row rule.ActiveAfterIssue = follows_issue ∷ []
active_row rule.MixedCommands = mixes_active ∷ []
active_row rule.SlotAboveList = is_above_list ∷ []
active_row other = never ∷ []

-- of PxCI
abbrev pub issue_row : Rule → List Condition
issue_row rule.CommandWhileStopped = lacks PxCmd 0x01 ∷ writes 0xffffffff ∷ []
issue_row rule.CommandWhileHalted = is_halted ∷ writes 0xffffffff ∷ []
issue_row rule.SlotUsedAgain = repeats PxCi ∷ []
issue_row rule.MixedCommands = mixes_issued ∷ []
issue_row rule.SlotAboveList = is_above_list ∷ []
issue_row other = never ∷ []

-- of PxIE, and of GHC, whose IE is bit 1
abbrev pub enable_row : Rule → List Condition
enable_row rule.EnableOverStatus = enables_old ∷ []
enable_row other = never ∷ []

abbrev pub global_row : Rule → List Condition
global_row rule.EnableOverStatus = writes 0x02 ∷ lacks Ghc 0x02 ∷ has Is 0xffffffff ∷ []
global_row other = never ∷ []

-- of IS: the port's bit is cleared
abbrev pub interrupt_row : Rule → List Condition
interrupt_row rule.InterruptNotCleared = writes 0x01 ∷ interrupts ∷ []
interrupt_row other = never ∷ []

-- the bits that the table of each register marks as reserved. Those of IS are the ports that are not there. Those of PxSERR may be written 1: section 10.4.2
-- has software write all 1s to it after a port reset
abbrev pub reserved_bits : Register → ℕ
reserved_bits Cap = 0x00080000
reserved_bits Ghc = 0x7ffffff8
reserved_bits Is = 0xfffffffe
reserved_bits PxClb = 0x000003ff
reserved_bits PxFb = 0x000000ff
reserved_bits PxIs = 0x023fff00
reserved_bits PxIe = 0x023fff00
reserved_bits PxCmd = 0x000000e0
reserved_bits PxTfd = 0xffff0000
reserved_bits PxSsts = 0xfffff000
reserved_bits PxSctl = 0xfff00000
reserved_bits register = 0

-- the other rules, by the register
abbrev pub register_row : Rule → Register → List Condition
register_row r PxCmd = command_row r
register_row r PxClb = list_row r
register_row r PxClbu = high_list_row r
register_row r PxFb = area_row r
register_row r PxFbu = high_area_row r
register_row r PxSctl = link_row r
register_row r PxSact = active_row r
register_row r PxCi = issue_row r
register_row r PxIe = enable_row r
register_row r Ghc = global_row r
register_row r Is = interrupt_row r
register_row r register = never ∷ []

abbrev pub write_row : Rule → Register → List Condition
write_row rule.ReservedBits register = writes (reserved_bits register) ∷ []
write_row r register = register_row r register

abbrev pub write_breaks : Rule → HbaState → Register → ℕ → Bool
write_breaks r s register word = all (write_row r register) s word
