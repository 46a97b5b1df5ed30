-- The registers are those of the journal: PxSACT and PxCI by the tags' phases, on a port that is started.
use Rattle.std.specs.Prelude.{◌≡◌, ℕ, true, List}
use Rattle.ahci_regs.specs.PortState.{PortState}
use Rattle.ncq_journal.specs.Entry.{Entry}
use Rattle.ncq_journal.specs.Tags.{sact, ci}

pub record Tracks (depth : ℕ) (past : List Entry) (s : PortState) : Type 0 where
  pub depth_is : s.depth ≡ depth
  pub st : s.st ≡ true
  pub fre : s.fre ≡ true
  pub sact_is : s.sact ≡ sact past
  pub ci_is : s.ci ≡ ci past
