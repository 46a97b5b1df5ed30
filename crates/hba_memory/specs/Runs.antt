-- Where the bytes of a command's data lie: the runs that the entries of its PRDT name, one after the other (AHCI 1.3.1, section
-- 4.2.3). Entries after the last byte of the data are not used.
use Rattle.std.specs.Prelude.{ℕ, ◌-◌, min, List, [], ◌∷◌, length, take, drop, nat_eq, sum_by, if◌then◌else◌}
use Rattle.hba_command.specs.declared.entry.PrdEntry.{PrdEntry}

-- a run of the driver's memory
pub record Run : Type 0 where
  pub address : ℕ
  pub length : ℕ

-- the runs of the first so many bytes of the data
abbrev pub runs : List PrdEntry → ℕ → List Run
runs [] n = []
runs (e ∷ rest) n = if nat_eq n 0 then [] else (record { address = e.address; length = min e.length n }) ∷ runs rest (n - e.length)

-- bytes that are written to the driver's memory
pub record Put : Type 0 where
  pub address : ℕ
  pub bytes : List ℕ

-- where bytes of data go
abbrev pub placed : List PrdEntry → List ℕ → List Put
placed [] bytes = []
placed (e ∷ rest) bytes =
    if nat_eq (length bytes) 0 then [] else (record { address = e.address; bytes = take e.length bytes }) ∷ placed rest (drop e.length bytes)

-- the run of some bytes that are written
abbrev pub run_of : Put → Run
run_of p = record { address = p.address; length = length p.bytes }

-- the first of some runs, of no bytes at the end, and those after it
abbrev pub first_run : List Run → Run
first_run [] = record { address = 0; length = 0 }
first_run (r ∷ rest) = r

abbrev pub later_runs : List Run → List Run
later_runs [] = []
later_runs (r ∷ rest) = rest

-- the same of bytes that are written
abbrev pub first_put : List Put → Put
first_put [] = record { address = 0; bytes = [] }
first_put (p ∷ rest) = p

abbrev pub later_puts : List Put → List Put
later_puts [] = []
later_puts (p ∷ rest) = rest

-- how many bytes the entries name
abbrev pub total : List PrdEntry → ℕ
total list = sum_by (λ e. e.length) list
