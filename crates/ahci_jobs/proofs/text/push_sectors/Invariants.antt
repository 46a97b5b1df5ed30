-- the sectors so far
use Rattle.std.proofs.Common.{◌≡◌, ◌++◌}
use Rattle.ahci_jobs.specs.Forms.{pieces_of, sector_in}
use Rattle.ahci_jobs.proofs.text.push_sectors.Given as goal

abbrev pub invariant-loop-lba : goal.invariant-loop-lba
invariant-loop-lba g l = l.text.bytes ≡ l.initial.text.bytes ++ pieces_of (sector_in l.form) l.port l.lba
