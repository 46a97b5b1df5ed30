-- What `ahci run` writes of a run, by its form: something of each job, in the order of the jobs, and then of each sector, rising;
-- or the journal.
use Rattle.std.specs.Prelude.{ℕ, zero, suc, ◌+◌, List, [], ◌∷◌, ◌++◌, slice_index, if◌then◌else◌}
use Rattle.ahci_driver.specs.Received.{Received}
use Rattle.ahci_port.specs.PortView.{PortView, sectors_in}
use Rattle.ahci_script.specs.Results as line
use Rattle.ncq_journal.specs.Sector.{sector}
use Rattle.ahci_jobs.specs.Objects.{job_object, sector_object}
use Rattle.ahci_jobs.specs.Results.{fed, is_blank, line_for}
use Rattle.ahci_jobs.specs.Scripts.{script_text}
use Rattle.ahci_jobs.specs.declared.form.Form.{Form}
use Rattle.ahci_jobs.specs.declared.form.Form.TheVariants.{Text, Json, Journal, Image}

-- what a form has of a job of so many workers: a line, an object, or nothing
abbrev pub job_in : Form → ℕ → ℕ → Received → List ℕ
job_in Text workers job reply = fed (line_for reply.answer)
job_in Json workers job reply = job_object workers job reply
job_in form workers job reply = []

-- of jobs, in their order, the first of which has this number
abbrev pub jobs_in : Form → ℕ → ℕ → List Received → List ℕ
jobs_in form workers job [] = []
jobs_in form workers job (reply ∷ more) = job_in form workers job reply ++ jobs_in form workers (job + 1) more

-- of a sector: its bytes; or a line or an object, by its first byte, where it isn't all zero
abbrev pub sector_in : Form → ℕ → List ℕ → List ℕ
sector_in Text lba bytes = if is_blank bytes then [] else fed (line.Sector lba (slice_index bytes 0))
sector_in Json lba bytes = if is_blank bytes then [] else sector_object lba (slice_index bytes 0)
sector_in Image lba bytes = bytes
sector_in Journal lba bytes = []

-- the pieces that the first n sectors of a port give
abbrev pub pieces_of : (ℕ → List ℕ → List ℕ) → PortView → ℕ → List ℕ
pieces_of piece port zero = []
pieces_of piece port (suc n) = pieces_of piece port n ++ piece n (sector port.starting port.past n)

-- of all jobs and sectors
abbrev pub parts_of : Form → ℕ → PortView → List Received → List ℕ
parts_of form workers port replies = jobs_in form workers 0 replies ++ pieces_of (sector_in form) port (sectors_in port)

-- all that is written of a run by so many workers
abbrev pub written_of : Form → ℕ → PortView → List Received → List ℕ
written_of Journal workers port replies = script_text port
written_of form workers port replies = parts_of form workers port replies
