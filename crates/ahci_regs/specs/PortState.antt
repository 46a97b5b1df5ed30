-- What the registers of one port keep (AHCI 1.3.1, section 3.3). A register of 32 bits with a bit for each slot or
-- for each interrupt is the set of its bits that are 1.
use Rattle.std.specs.Prelude.{◌≡◌, ℕ, ◌%◌, ◌^◌, ◌<◌, ◌≤◌, Bool, true, false, List, length}
use Rattle.word_bits.specs.Places.{bits, no_places, intersection, only_below}

pub record PortState : Type 0 where
  -- how many slots the port has
  pub depth : ℕ
  -- PxSACT and PxCI, by slot
  pub sact : List Bool
  pub ci : List Bool
  -- PxIS and PxIE, by interrupt
  pub is : List Bool
  pub ie : List Bool
  -- PxCMD.ST and PxCMD.FRE
  pub st : Bool
  pub fre : Bool
  -- the two bytes of PxTFD: STS and ERR
  pub sts : ℕ
  pub err : ℕ
  -- PxCLB and PxFB
  pub clb : ℕ
  pub fb : ℕ

-- the interrupts that this model has: bits 0 DHRS, 1 PSS, 2 DSS, 3 SDBS and 30 TFES
abbrev pub implemented : List Bool
implemented = bits 0x4000000f

-- the registers of a port that has not been started: nothing is set, and PxTFD is 00000040h
abbrev pub first_state : ℕ → PortState
first_state depth = record {
  depth = depth;
  sact = no_places;
  ci = no_places;
  is = no_places;
  ie = no_places;
  st = false;
  fre = false;
  sts = 0x40;
  err = 0;
  clb = 0;
  fb = 0;
}

-- a register's set of slots: its 32 bits, none set at or above the depth
pub record IsSlots (depth : ℕ) (s : List Bool) : Type 0 where
  pub whole : length s ≡ 32
  pub within : only_below depth s ≡ s

-- a register's set of interrupts: its 32 bits, only those of this model set
pub record IsInterrupts (s : List Bool) : Type 0 where
  pub whole : length s ≡ 32
  pub within : intersection s implemented ≡ s

-- a base address below 4 GiB, whose bits below bit i are 0
pub record IsBase (i w : ℕ) : Type 0 where
  pub low : w < 2 ^ 32
  pub aligned : w % 2 ^ i ≡ 0

-- what every state of a port's registers keeps
pub record IsLawful (s : PortState) : Type 0 where
  pub some_slot : 1 ≤ s.depth
  pub slots : s.depth ≤ 32
  pub sact : IsSlots s.depth s.sact
  pub ci : IsSlots s.depth s.ci
  pub is : IsInterrupts s.is
  pub ie : IsInterrupts s.ie
  -- a started port receives FISes, and a stopped one has no command
  pub receiving : s.st ≡ true → s.fre ≡ true
  pub stopped : s.st ≡ false → (s.sact ≡ no_places) × (s.ci ≡ no_places)
  pub sts : s.sts < 256
  pub err : s.err < 256
  -- the command list is aligned to 1 KiB, the received FIS area to 256 bytes
  pub clb : IsBase 10 s.clb
  pub fb : IsBase 8 s.fb
