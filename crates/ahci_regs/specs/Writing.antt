-- What a write to each register does (AHCI 1.3.1, section 3.3).
use Rattle.std.specs.Prelude.{◌≡◌, ℕ, ◌*◌, ◌/◌, ◌^◌, Bool, not, ◌&&◌, List, Result, Ok, Err, nat_eq, MatchResult, if◌then◌else◌}
use Rattle.word_bits.specs.Places.{bits, has_place, no_places, union, intersection, minus, only_below}
use Rattle.ahci_regs.specs.PortState.{PortState, implemented}
use Rattle.ahci_regs.specs.RegisterTable.{register_at}
use Rattle.ahci_regs.specs.declared.fault.RegFault.{RegFault}
use Rattle.ahci_regs.specs.declared.fault.RegFault.TheVariants.{NotStarted, NotReceiving, Running}
use Rattle.ahci_regs.specs.declared.register.Register.{Register}
use Rattle.ahci_regs.specs.declared.register.Register.TheVariants.{Cap, Ghc, Pi, Vs, PxClb, PxClbu, PxFb, PxFbu, PxIs, PxIe, PxCmd, PxTfd, PxSig, PxSsts, PxSctl, PxSerr, PxSact, PxCi}

-- the bits of an address from bit i on; those below it read 0
abbrev pub aligned : ℕ → ℕ → ℕ
aligned i value = value / 2 ^ i * 2 ^ i

-- PxCLB: the base of the command list stays where it is while the port runs
abbrev pub with_clb : PortState → ℕ → Result PortState RegFault
with_clb s value =
    if s.st && not (nat_eq (aligned 10 value) s.clb) then Err Running else Ok (record s { clb = aligned 10 value })

-- PxFB: so does the base of the received FIS area
abbrev pub with_fb : PortState → ℕ → Result PortState RegFault
with_fb s value =
    if s.st && not (nat_eq (aligned 8 value) s.fb) then Err Running else Ok (record s { fb = aligned 8 value })

-- PxSACT or PxCI after a write to PxCMD: where ST goes from 1 to 0, no command is left
abbrev pub remaining : Bool → List Bool → List Bool
remaining stops s = if stops then no_places else s

abbrev pub commanded : PortState → Bool → Bool → PortState
commanded s st fre =
    record s { st = st; fre = fre; sact = remaining (s.st && not st) s.sact; ci = remaining (s.st && not st) s.ci }

-- PxCMD: FRE stays set while the port runs, and is set before the port is started
abbrev pub with_command : PortState → Bool → Bool → Result PortState RegFault
with_command s st fre =
    if s.st && not fre then Err Running
    else if not s.st && st && not (s.fre && fre) then Err NotReceiving
    else Ok (commanded s st fre)

-- PxSACT and PxCI take commands while the port is started: bits of slots that the port has, and none is cleared
abbrev pub with_sact : PortState → ℕ → Result PortState RegFault
with_sact s value = if s.st then Ok (record s { sact = union s.sact (only_below s.depth (bits value)) }) else Err NotStarted

abbrev pub with_ci : PortState → ℕ → Result PortState RegFault
with_ci s value = if s.st then Ok (record s { ci = union s.ci (only_below s.depth (bits value)) }) else Err NotStarted

-- the state after a write to each register; a read-only register takes the write and stays as it is
abbrev pub written : PortState → ℕ → Register → Result PortState RegFault
written s value Cap = Ok s
written s value Ghc = Ok s
written s value Pi = Ok s
written s value Vs = Ok s
written s value PxClb = with_clb s value
written s value PxClbu = Ok s
written s value PxFb = with_fb s value
written s value PxFbu = Ok s
-- writing 1 clears
written s value PxIs = Ok (record s { is = minus s.is (bits value) })
written s value PxIe = Ok (record s { ie = intersection (bits value) implemented })
written s value PxCmd = with_command s (has_place (bits value) 0) (has_place (bits value) 4)
written s value PxTfd = Ok s
written s value PxSig = Ok s
written s value PxSsts = Ok s
written s value PxSctl = Ok s
written s value PxSerr = Ok s
written s value PxSact = with_sact s value
written s value PxCi = with_ci s value

-- a call did what it should: on Ok the state is the next one, on Err the fault is named and the state is the old one
abbrev pub Follows : Result Unit RegFault → PortState → PortState → Result PortState RegFault → Type 0
Follows result old new next = MatchResult result (λ _. next ≡ Ok new) (λ fault. (next ≡ Err fault) × (new ≡ old))

-- what a write does, once its offset is known to be a register's or at fault
abbrev pub write_at : PortState → ℕ → Result Register RegFault → Result PortState RegFault
write_at s value (Ok register) = written s value register
write_at s value (Err fault) = Err fault

-- the state after a write of a value to an offset, or the fault that refuses it
abbrev pub write_of : PortState → ℕ → ℕ → Result PortState RegFault
write_of s off value = write_at s value (register_at off)

-- the write is taken, and leads from the old state to the new one
abbrev pub IsWritten : ℕ → ℕ → PortState → PortState → Type 0
IsWritten off value old new = write_of old off value ≡ Ok new

-- the write is refused
abbrev pub RefusesWrite : ℕ → ℕ → PortState → RegFault → Type 0
RefusesWrite off value old fault = write_of old off value ≡ Err fault
