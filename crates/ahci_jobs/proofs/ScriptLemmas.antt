-- Lemmas about the lines of a journal as a script.
use Rattle.std.proofs.Common.{◌≡◌, ℕ, ◌<◌, Ok, Option, Some, None, MatchOption, refl, List, [], ◌∷◌, ◌++◌, length, get_or, take, ap, ◌∙◌}
use Rattle.ahci_port.specs.PortView.{PortView, sectors_in}
use Rattle.ahci_script.specs.Lines.{reading}
use Rattle.ahci_script.specs.Printing.{IsInRange, printed}
use Rattle.ahci_script.specs.declared.line.Line.TheVariants as line
use Rattle.ahci_script.specs.declared.line.ScriptCommand.{ScriptCommand}
use Rattle.ahci_script.specs.declared.line.ScriptCommand.TheVariants.{Disk}
use Rattle.ahci_script.proofs.ReadBackLemmas.{read_back}
use Rattle.ncq_journal.specs.Entry.{Entry, Issue, Zero, entry_of}
use Rattle.ncq_journal.specs.History.{history_of}
use Rattle.ncq_journal.specs.Lawful.{IsAllowed, IsLawful, IsProperEntry}
use Rattle.ncq_journal.specs.declared.event.Event.{Event}
use Rattle.ncq_journal.proofs.LawfulLemmas.{allowed_at}
use Rattle.ahci_jobs.specs.Scripts.{AreLinesRead, command_line, comment_of, entry_command, entry_lines, script_text}

-- a line is read as the command that it was made of
line_read : (comment : List ℕ) (command : Option ScriptCommand) → reading comment ≡ Ok line.Skip → MatchOption command
    (reading (command_line comment command) ≡ Ok line.Skip) (λ c. IsInRange c → reading (command_line comment command) ≡ Ok (line.Run c))
line_read comment None skipped = skipped
line_read comment (Some command) skipped = read_back command

-- a comment is passed over
comment_read : (entry : Entry) → reading (comment_of entry) ≡ Ok line.Skip
comment_read (Zero lba sectors) = refl
comment_read _ = refl

pub lines_read : AreLinesRead
lines_read issued entry = line_read (comment_of entry) (entry_command issued entry) (comment_read entry)

-- an entry that may come next issues a command that can be issued, if it issues one
proper_next : (s d : ℕ) (past : List Entry) (entry : Entry) → IsAllowed s d past entry → IsProperEntry entry
proper_next s d past (Issue t work) h = h.3
proper_next s d past _ h = tt

-- each entry of a lawful journal does
pub proper_at : {A : _} (s d : ℕ) (events : List (Event A)) (i : ℕ) (event : Event A) → i < length events → event ≡ get_or events i event
    → IsLawful s d (history_of events) → IsProperEntry (entry_of event)
proper_at s d events i event low is lawful = proper_next s d (history_of (take i events)) (entry_of event) (allowed_at s d events i event low is lawful)

-- the disk's line, and those of its journal
pub told_script : (port : PortView) (sectors depth : ℕ) (past : List Entry) (none one two : List ℕ) → none ≡ [] → one ≡ none ++ (printed (Disk sectors depth None) ++ 10 ∷ [])
    → two ≡ one ++ entry_lines sectors past → sectors ≡ sectors_in port → depth ≡ port.depth → past ≡ port.past → two ≡ script_text port
unfolding script_text
told_script port sectors depth past none one two empty first later s d p =
    later ∙ ap (λ t. t ++ entry_lines sectors past) (first ∙ ap (λ t. t ++ (printed (Disk sectors depth None) ++ 10 ∷ [])) empty)
    ∙ ap (λ n. (printed (Disk n depth None) ++ 10 ∷ []) ++ entry_lines n past) s
    ∙ ap (λ n. (printed (Disk (sectors_in port) n None) ++ 10 ∷ []) ++ entry_lines (sectors_in port) past) d
    ∙ ap (λ l. (printed (Disk (sectors_in port) port.depth None) ++ 10 ∷ []) ++ entry_lines (sectors_in port) l) p
