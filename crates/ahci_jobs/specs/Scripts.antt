-- A journal as a script: for each entry the command of the language that appends it.
use Rattle.std.specs.Prelude.{◌≡◌, ℕ, ◌+◌, ◌/◌, false, List, [], ◌∷◌, ◌++◌, Ok, Option, None, Some, MatchOption, length, nat_lt, slice_index, codes, if◌then◌else◌}
use Rattle.ahci_port.specs.PortView.{PortView, sectors_in}
use Rattle.ahci_script.specs.Lines.{reading}
use Rattle.ahci_script.specs.Printing.{IsInRange, printed}
use Rattle.ahci_script.specs.declared.line.Line.TheVariants as line
use Rattle.ahci_script.specs.declared.line.ScriptCommand.{ScriptCommand}
use Rattle.ahci_script.specs.declared.line.ScriptCommand.TheVariants as command
use Rattle.ncq_journal.specs.Entry.{Entry, Issue, Accept, Complete, Fail, Recover, Reissue, Collect, Unqueued, Zero}
use Rattle.ncq_journal.specs.Request.{Request, request}
use Rattle.ncq_journal.specs.Work.{Work, Read, Write, lba_of, sectors_of}
use Rattle.ncq_journal.specs.declared.plain.Plain.{Plain}
use Rattle.ncq_journal.specs.declared.plain.Plain.TheVariants.{Identify, Flush, ReadLog}
use Rattle.ahci_jobs.specs.declared.issued.Issued.{Issued}

-- a tag that was never issued
abbrev pub nothing_issued : Issued
nothing_issued = record { number = 0; is_outside = false }

-- of the request of a tag: its number, and whether it passes the last of so many sectors
abbrev pub issued_by : ℕ → Option Request → Issued
issued_by sectors None = nothing_issued
issued_by sectors (Some r) = record { number = r.number; is_outside = nat_lt sectors (lba_of r.work + sectors_of r.work) }

abbrev pub issued_in : ℕ → List Entry → ℕ → Issued
issued_in sectors past tag = issued_by sectors (request past tag)

-- a command is issued; a write's sectors are shown by their first byte
abbrev pub issue_command : ℕ → Work → ScriptCommand
issue_command tag (Read lba sectors) = command.Read tag lba sectors
issue_command tag (Write lba bytes) = command.Write tag lba (length bytes / 512) (slice_index bytes 0)

-- a command fails: one that passes the last sector as it is accepted, any other by the device
abbrev pub fail_command : Issued → ℕ → ℕ → ℕ → ScriptCommand
fail_command issued tag error lba = if issued.is_outside then command.Accept tag else command.Fail tag error lba

abbrev pub collect_command : Issued → ℕ → ScriptCommand
collect_command issued tag = command.Collect tag issued.number

-- READ LOG EXT is part of a recovery and has no command
abbrev pub unqueued_command : Plain → Option ScriptCommand
unqueued_command Identify = Some (command.Identify 0)
unqueued_command Flush = Some command.Flush
unqueued_command ReadLog = None

-- the command that appends an entry, where its tag's request is so; the language has none that makes sectors zeros
abbrev pub entry_command : (ℕ → Issued) → Entry → Option ScriptCommand
entry_command issued (Issue tag work) = Some (issue_command tag work)
entry_command issued (Accept tag) = Some (command.Accept tag)
entry_command issued (Complete tag) = Some (command.Serve (record { items = tag ∷ [] }))
entry_command issued (Fail tag error lba) = Some (fail_command (issued tag) tag error lba)
entry_command issued (Recover tag) = Some command.Recover
entry_command issued (Reissue tag) = Some (command.Reissue tag)
entry_command issued (Collect tag) = Some (collect_command (issued tag) tag)
entry_command issued (Unqueued command) = unqueued_command command
entry_command issued (Zero lba sectors) = None

-- the comment of an entry without a command
abbrev pub comment_of : Entry → List ℕ
comment_of (Zero lba sectors) = codes "# DATA SET MANAGEMENT"
comment_of entry = codes "# READ LOG EXT"

-- a command as it is printed; none is a comment
abbrev pub command_line : List ℕ → Option ScriptCommand → List ℕ
command_line comment None = comment
command_line comment (Some command) = printed command

abbrev pub entry_line : (ℕ → Issued) → Entry → List ℕ
entry_line issued entry = command_line (comment_of entry) (entry_command issued entry)

-- the lines of a journal, the oldest entry's first
abbrev pub entry_lines : ℕ → List Entry → List ℕ
entry_lines sectors [] = []
entry_lines sectors (entry ∷ past) = entry_lines sectors past ++ (entry_line (issued_in sectors past) entry ++ 10 ∷ [])

-- the disk, and what was done on it
unfoldable pub script_text : PortView → List ℕ
script_text port =
    (printed (command.Disk (sectors_in port) port.depth None) ++ 10 ∷ []) ++ entry_lines (sectors_in port) port.past

-- each line of a script that reports a journal is read as the command of its entry, if the numbers are in their ranges, and the
-- comment is passed over
abbrev pub AreLinesRead : Type 0
AreLinesRead = (issued : ℕ → Issued) (entry : Entry) → MatchOption (entry_command issued entry)
    (reading (entry_line issued entry) ≡ Ok line.Skip)
    (λ command. IsInRange command → reading (entry_line issued entry) ≡ Ok (line.Run command))
