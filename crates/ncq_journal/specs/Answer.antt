-- What a request is answered: the place of its entry, its outcome and, for a read, the sectors as they were at that entry.
use Rattle.std.specs.Prelude.{ℕ, ◌==◌, if◌then◌else◌, List, [], ◌∷◌, length, Option, None, Some}
use Rattle.std.specs.List.{flat_map, range_with_len}
use Rattle.std.specs.Option.{option_or}
use Rattle.ncq_journal.specs.declared.outcome.Outcome.{Outcome}
use Rattle.ncq_journal.specs.declared.outcome.Outcome.TheVariants as outcome
use Rattle.ncq_journal.specs.Entry.{Entry, Issue, Complete, Fail}
use Rattle.ncq_journal.specs.History.{entry_at}
use Rattle.ncq_journal.specs.Sector.{sector}
use Rattle.ncq_journal.specs.Work.{Work, Read, Write}

pub record Answer : Type 0 where
  pub entry : ℕ
  pub outcome : Outcome
  pub bytes : List ℕ

-- so many sectors from an LBA on, joined
abbrev pub sectors_at : List ℕ → List Entry → ℕ → ℕ → List ℕ
sectors_at image past lba sectors = flat_map (sector image past) (range_with_len lba sectors)

-- the answer of a command that is completed after this journal
abbrev pub completes : List ℕ → List Entry → Work → Answer
completes image past (Read lba sectors) = record { entry = length past; outcome = outcome.Read; bytes = sectors_at image past lba sectors }
completes image past (Write lba bytes) = record { entry = length past; outcome = outcome.Wrote; bytes = [] }

-- the answer that one more entry gives to the request whose Issue is this entry, if it gives one
abbrev pub given : List ℕ → List Entry → Entry → Option Entry → Option Answer
given image past (Complete t) (Some (Issue tag work)) = if t == tag then Some (completes image past work) else None
given image past (Fail t error lba) (Some (Issue tag work)) =
    if t == tag then Some (record { entry = length past; outcome = outcome.Failed error lba; bytes = [] }) else None
given image past entry issue = None

-- the answer of request n: the first Complete or Fail of its tag after entry n gives it
abbrev pub answer : List ℕ → List Entry → ℕ → Option Answer
answer image [] n = None
answer image (entry ∷ past) n = option_or (answer image past n) (given image past entry (entry_at past n))
