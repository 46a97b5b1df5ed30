-- the commands of the entries so far, and what is kept of their requests
use Rattle.std.proofs.Common.{◌≡◌, ◌++◌, take}
use Rattle.ncq_journal.specs.History.{history_of}
use Rattle.ahci_jobs.specs.Noted.{AreNoted}
use Rattle.ahci_jobs.specs.Scripts.{entry_lines}
use Rattle.ahci_jobs.proofs.script.push_entries.Given as goal

abbrev pub invariant-loop-place : goal.invariant-loop-place
invariant-loop-place g l = record {
  told : l.text.bytes ≡ l.initial.text.bytes ++ entry_lines l.sectors (history_of (take l.place l.events));
  noted : AreNoted l.sectors (history_of (take l.place l.events)) l.kept;
}
