-- What is kept of the requests of all tags while a journal is reported as a script.
use Rattle.std.specs.Prelude.{◌≡◌, ◌<◌, ℕ, List}
use Rattle.std.specs.List.{slice_index_or}
use Rattle.ncq_journal.specs.Entry.{Entry}
use Rattle.ahci_jobs.specs.Scripts.{issued_in, nothing_issued}
use Rattle.ahci_jobs.specs.declared.issued.Issued.{Issued}

-- what is kept of a tag
abbrev pub kept_of : List Issued → ℕ → Issued
kept_of kept tag = slice_index_or kept tag nothing_issued

-- it is what the journal says of the tag's request
abbrev pub AreNoted : ℕ → List Entry → List Issued → Type 0
AreNoted sectors past kept = (tag : ℕ) → tag < 256 → kept_of kept tag ≡ issued_in sectors past tag
