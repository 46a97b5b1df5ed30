-- A run as JSON (RFC 8259): an object a line, with the words of the text in it.
use Rattle.std.specs.Prelude.{ℕ, ◌%◌, List, ◌++◌, codes}
use Rattle.std.specs.Fmt.{decimal}
use Rattle.ahci_driver.specs.Received.{Received}
use Rattle.ahci_script.specs.Results.{Told, told_text}
use Rattle.ahci_script.specs.Results as line
use Rattle.ahci_jobs.specs.Results.{line_for}

-- a word, and a number after it
abbrev pub numbered : List ℕ → ℕ → List ℕ
numbered word number = word ++ decimal number

-- the last member: the line that the text has
unfoldable pub answer_member : Told → List ℕ
answer_member said = codes ",\"answer\":\"" ++ (told_text said ++ codes "\"}\n")

-- which job it is, and who did it: of W workers, the job i belongs to worker i mod W
unfoldable pub job_members : ℕ → ℕ → List ℕ
job_members workers job = numbered (codes "{\"job\":") job ++ numbered (codes ",\"worker\":") (job % workers)

-- the numbers of the request and of the answer's entry
unfoldable pub number_members : Received → List ℕ
number_members reply = numbered (codes ",\"number\":") reply.number ++ numbered (codes ",\"entry\":") reply.answer.entry

unfoldable pub job_object : ℕ → ℕ → Received → List ℕ
job_object workers job reply = job_members workers job ++ (number_members reply ++ answer_member (line_for reply.answer))

-- the object of a sector, by its first byte
unfoldable pub sector_object : ℕ → ℕ → List ℕ
sector_object lba byte = numbered (codes "{\"sector\":") lba ++ answer_member (line.Sector lba byte)
