-- The places of the registers, and their names (AHCI 1.3.1, sections 3.1 and 3.3). The registers of the port begin at 100h.
use Rattle.std.specs.Prelude.{ℕ, ◌%◌, List, [], ◌∷◌, Result, Err, nat_eq, find, ok_or, if◌then◌else◌, codes}
use Rattle.ahci_regs.specs.declared.fault.RegFault.{RegFault}
use Rattle.ahci_regs.specs.declared.fault.RegFault.TheVariants.{Unaligned, NoSuchRegister}
use Rattle.ahci_regs.specs.declared.register.Register.{Register}
use Rattle.ahci_regs.specs.declared.register.Register.TheVariants.{Cap, Ghc, Pi, Vs, PxClb, PxClbu, PxFb, PxFbu, PxIs, PxIe, PxCmd, PxTfd, PxSig, PxSsts, PxSctl, PxSerr, PxSact, PxCi}

-- the offset of each register
abbrev pub offset_of : Register → ℕ
offset_of Cap = 0x000
offset_of Ghc = 0x004
offset_of Pi = 0x00c
offset_of Vs = 0x010
offset_of PxClb = 0x100
offset_of PxClbu = 0x104
offset_of PxFb = 0x108
offset_of PxFbu = 0x10c
offset_of PxIs = 0x110
offset_of PxIe = 0x114
offset_of PxCmd = 0x118
offset_of PxTfd = 0x120
offset_of PxSig = 0x124
offset_of PxSsts = 0x128
offset_of PxSctl = 0x12c
offset_of PxSerr = 0x130
offset_of PxSact = 0x134
offset_of PxCi = 0x138

-- the name of each register
abbrev pub name_of : Register → List ℕ
name_of Cap = codes "CAP"
name_of Ghc = codes "GHC"
name_of Pi = codes "PI"
name_of Vs = codes "VS"
name_of PxClb = codes "PxCLB"
name_of PxClbu = codes "PxCLBU"
name_of PxFb = codes "PxFB"
name_of PxFbu = codes "PxFBU"
name_of PxIs = codes "PxIS"
name_of PxIe = codes "PxIE"
name_of PxCmd = codes "PxCMD"
name_of PxTfd = codes "PxTFD"
name_of PxSig = codes "PxSIG"
name_of PxSsts = codes "PxSSTS"
name_of PxSctl = codes "PxSCTL"
name_of PxSerr = codes "PxSERR"
name_of PxSact = codes "PxSACT"
name_of PxCi = codes "PxCI"

-- all registers of this model, in the order of their offsets
abbrev pub registers : List Register
registers = Cap ∷ Ghc ∷ Pi ∷ Vs ∷ PxClb ∷ PxClbu ∷ PxFb ∷ PxFbu ∷ PxIs ∷ PxIe ∷ PxCmd ∷ PxTfd ∷ PxSig ∷ PxSsts ∷ PxSctl ∷ PxSerr ∷ PxSact ∷ PxCi ∷ []

-- the register at an offset: a register is read and written as a whole, so its offset is a multiple of 4
unfoldable pub register_at : ℕ → Result Register RegFault
register_at off = if nat_eq (off % 4) 0 then ok_or (find (λ r. nat_eq (offset_of r) off) registers) NoSuchRegister else Err Unaligned
