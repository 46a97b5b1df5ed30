-- The names of a register's bits (AHCI 1.3.1, sections 3.1 and 3.3; ACS-3 for the bits of status and error).
use Rattle.std.specs.Prelude.{ℕ, Bool, true, false, ◌||◌, if◌then◌else◌, List, [], ◌∷◌, ◌++◌, codes}
use Rattle.ahci_regs.specs.declared.register.Register.{Register}
use Rattle.ahci_regs.specs.declared.register.Register.TheVariants.{Cap, Ghc, PxIs, PxIe, PxCmd, PxTfd}
use Rattle.word_bits.specs.Places.{bits, has_place}
use Rattle.ahci_trace.specs.declared.names.NamedBit.{NamedBit}

-- a bit by its place, and its name
pub record Named : Type 0 where
  pub place : ℕ
  pub name : List ℕ

abbrev pub bit : ℕ → List ℕ → Named
bit place name = record { place = place; name = name }

-- what the code's value says
abbrev pub named : NamedBit → Named
named b = bit b.0 b.1.now

-- PxIS and PxIE
abbrev pub interrupt_bits : List Named
interrupt_bits = bit 0 (codes "DHRS") ∷ bit 1 (codes "PSS") ∷ bit 2 (codes "DSS") ∷ bit 3 (codes "SDBS") ∷ bit 30 (codes "TFES") ∷ []

-- PxCMD
abbrev pub command_bits : List Named
command_bits = bit 0 (codes "ST") ∷ bit 4 (codes "FRE") ∷ bit 14 (codes "FR") ∷ bit 15 (codes "CR") ∷ []

-- PxTFD: status in bits 7:0, error in bits 15:8, of which those without a name in the standard have their number
abbrev pub task_file_bits : List Named
task_file_bits =
    bit 0 (codes "ERR") ∷ bit 3 (codes "DRQ") ∷ bit 6 (codes "DRDY") ∷ bit 7 (codes "BSY")
    ∷ bit 8 (codes "error bit 0") ∷ bit 9 (codes "error bit 1") ∷ bit 10 (codes "error ABRT") ∷ bit 11 (codes "error bit 3")
    ∷ bit 12 (codes "error IDNF") ∷ bit 13 (codes "error bit 5") ∷ bit 14 (codes "error UNC") ∷ bit 15 (codes "error ICRC") ∷ []

-- the bits that have names
abbrev pub bits_of : Register → List Named
bits_of Cap = bit 30 (codes "SNCQ") ∷ []
bits_of Ghc = bit 31 (codes "AE") ∷ []
bits_of PxIs = interrupt_bits
bits_of PxIe = interrupt_bits
bits_of PxCmd = command_bits
bits_of PxTfd = task_file_bits
bits_of register = []

-- what comes before a name: two spaces before the first
abbrev pub separator : Bool → List ℕ
separator false = codes "  "
separator true = codes ", "

-- a bit's name where it is set; `any` says whether names come before it
abbrev pub name_text : Bool → List Bool → ℕ → List ℕ → List ℕ
name_text any set place name = if has_place set place then separator any ++ name else []

-- the names of the bits that are set
abbrev pub names_text : Bool → List Bool → List Named → List ℕ
names_text any set [] = []
names_text any set (n ∷ more) = name_text any set n.place n.name ++ names_text (any || has_place set n.place) set more

-- a register's bits by their names
abbrev pub bits_text : Register → ℕ → List ℕ
bits_text register word = names_text false (bits word) (bits_of register)
