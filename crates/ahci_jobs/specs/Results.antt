-- The lines that `ahci run` writes as text.
use Rattle.std.specs.Prelude.{ℕ, ◌==◌, Bool, List, [], ◌∷◌, ◌++◌}
use Rattle.std.specs.List.{list_all}
use Rattle.ahci_script.specs.Results.{Told, told_text}
use Rattle.ahci_script.specs.Results as line
use Rattle.ncq_journal.specs.Answer.{Answer}
use Rattle.ncq_journal.specs.declared.outcome.Outcome.{Outcome}
use Rattle.ncq_journal.specs.declared.outcome.Outcome.TheVariants.{Read, Wrote, Failed}

-- the line of a job that ended so, with these bytes
abbrev pub line_with : Outcome → List ℕ → Told
line_with Read bytes = line.Read bytes
line_with Wrote bytes = line.Wrote
line_with (Failed error lba) bytes = line.Failed error lba

-- the line of an answer
abbrev pub line_for : Answer → Told
line_for answer = line_with answer.outcome answer.bytes

-- a line with its line feed
abbrev pub fed : Told → List ℕ
fed said = told_text said ++ 10 ∷ []

-- all bytes are 0
abbrev pub is_blank : List ℕ → Bool
is_blank = list_all (λ b. b == 0)
