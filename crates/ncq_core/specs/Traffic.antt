-- Which FISes pass between the disk and a host while a command is served (Serial ATA, "DMA Setup FIS", "DMA Activate FIS" and
-- "Data FIS"): one DMA Setup; then the data in Data FISes, each with 8,192 bytes of payload but the last one, which has the rest. The
-- host sends those of a write, each after a DMA Activate.
use Rattle.std.specs.Prelude.{ℕ, ◌/◌, ◌%◌, Bool, true, false, nat_eq, if◌then◌else◌, List, [], ◌∷◌, ◌++◌, map, replicate}
use Rattle.sata_fis.specs.Fields.{QueuedFields}
use Rattle.ncq_core.specs.DiskFis.{setup_bytes}
use Rattle.ncq_core.specs.Serving.{byte_count}

-- what passes: a DMA Setup of these bytes; a Data FIS to the host with so many bytes of payload; a DMA Activate, and then one from the host
pub data Passed : Type 0 where
  Setup : (fis : List ℕ) → Passed
  Data : (payload : ℕ) → Passed
  Activate : (payload : ℕ) → Passed

-- the most payload of a Data FIS
abbrev pub most_payload : ℕ
most_payload = 8192

-- the payload of each Data FIS of so many bytes
abbrev pub payloads : ℕ → List ℕ
payloads bytes =
    replicate (bytes / most_payload) most_payload ++ (if nat_eq (bytes % most_payload) 0 then [] else bytes % most_payload ∷ [])

-- so many bytes to the host, or from it
abbrev pub moved_by : (write : Bool) → ℕ → List Passed
moved_by true bytes = map Activate (payloads bytes)
moved_by false bytes = map Data (payloads bytes)

-- all that passes while a command is served
abbrev pub passed_for : QueuedFields → List Passed
passed_for q = Setup (setup_bytes q) ∷ moved_by q.write (byte_count q)
