-- Where the registers are (AHCI 1.3.1, sections 3.1 and 3.3). The registers of the port begin at 100h.
use Rattle.std.specs.Prelude.{ℕ, Bool, true, false, List, [], ◌∷◌, Option, nat_eq, find}
use Rattle.hba_regs.specs.declared.register.Register.{Register}
use Rattle.hba_regs.specs.declared.register.Register.TheVariants.{Cap, Ghc, Is, Pi, Vs, PxClb, PxClbu, PxFb, PxFbu, PxIs, PxIe, PxCmd, PxTfd, PxSig, PxSsts, PxSctl, PxSerr, PxSact, PxCi}

-- the offset of each register
abbrev pub offset_of : Register → ℕ
offset_of Cap = 0x000
offset_of Ghc = 0x004
offset_of Is = 0x008
offset_of Pi = 0x00c
offset_of Vs = 0x010
offset_of PxClb = 0x100
offset_of PxClbu = 0x104
offset_of PxFb = 0x108
offset_of PxFbu = 0x10c
offset_of PxIs = 0x110
offset_of PxIe = 0x114
offset_of PxCmd = 0x118
offset_of PxTfd = 0x120
offset_of PxSig = 0x124
offset_of PxSsts = 0x128
offset_of PxSctl = 0x12c
offset_of PxSerr = 0x130
offset_of PxSact = 0x134
offset_of PxCi = 0x138

-- the registers that aren't 0 at all times, in the order of their offsets
abbrev pub registers : List Register
registers = Cap ∷ Ghc ∷ Is ∷ Pi ∷ Vs ∷ PxClb ∷ PxClbu ∷ PxFb ∷ PxFbu ∷ PxIs ∷ PxIe ∷ PxCmd ∷ PxTfd ∷ PxSig ∷ PxSsts ∷ PxSctl ∷ PxSerr ∷ PxSact ∷ PxCi ∷ []

-- the register at an offset, if it is one of these
unfoldable pub register_at : ℕ → Option Register
register_at off = find (λ r. nat_eq (offset_of r) off) registers

-- the registers of which writing 1 clears or sets a bit, and writing 0 leaves it
abbrev pub takes_ones : Register → Bool
takes_ones Is = true
takes_ones PxIs = true
takes_ones PxSerr = true
takes_ones PxSact = true
takes_ones PxCi = true
takes_ones register = false
