-- What a script's lines add to the output, and how far a script has come.
use Rattle.std.specs.Prelude.{◌≡◌, ℕ, ◌+◌, Bool, true, false, if◌then◌else◌, List, [], ◌∷◌, ◌++◌, Option, Some, None, length, take, option_and_then, ◌⊎◌, ⊤}
use Rattle.std.specs.Io.KnownBytes.{Appends, Consumes, IsAtEnd}
use Rattle.ahci_replay.specs.Commands.{Runs, is_in_place}
use Rattle.ahci_replay.specs.Place.{Place}
use Rattle.ahci_replay.specs.declared.script_fault.ScriptFault.{ScriptFault}
use Rattle.ahci_replay.specs.declared.script_fault.ScriptFault.TheVariants as fault
use Rattle.ahci_script.specs.Answers.{answer_text}
use Rattle.ahci_script.specs.Lines.{line_of}
use Rattle.ahci_script.specs.Said.{Said}
use Rattle.streams.specs.Reading.{IsNext}
use Rattle.streams.specs.Ends.{ReadSoFar, WrittenSoFar, with_flush}
use Rattle.streams.specs.Unread.{Begins, FailsReading, MayFail, ReadsNoMore, found_of, too_long, unfinished, whole, with_feeds}
use Rattle.ahci_script.specs.declared.line.ScriptCommand.{ScriptCommand}
use Rattle.ahci_script.specs.declared.line.Line.{Line}
use Rattle.ahci_script.specs.declared.line.Line.TheVariants as line
use Rattle.ahci_port.specs.PortView.{PortView}

-- the command of a line is allowed here
abbrev pub is_placed : Option PortView → Line → Bool
is_placed port line.Skip = true
is_placed port (line.Run command) = is_in_place port command

-- a line that is allowed here
abbrev pub placed_by : Option PortView → Line → Option Line
placed_by port l = if is_placed port l then Some l else None

-- the line that a text spells; none where it is not understood or out of place
abbrev pub placed : Option PortView → List ℕ → Option Line
placed port text = option_and_then (placed_by port) (line_of text)

-- the text that is written for an answer, whole lines: by the number and the text of the line that has the command, by what the
-- answer says, by the port that the command found and by the one that it has left
abbrev pub Telling : Type 0
Telling = ℕ → List ℕ → Said → Option PortView → Option PortView → List ℕ

-- each answer is a line
abbrev pub answers_alone : Telling
answers_alone number line said old new = answer_text said ++ 10 ∷ []

-- a command was run, and this text reports its answer
pub record HasRun (telling : Telling) (number : ℕ) (line : List ℕ) (old : Option PortView) (command : ScriptCommand) (new : Option PortView) (text : List ℕ) : Type 0 where
  pub said : Said
  pub ran : Runs old command new said
  pub spelled : text ≡ telling number line said old new

-- the port after a line, and what the line adds: nothing where it is skipped, an answer where it is a command
abbrev pub RunsLine : Telling → ℕ → List ℕ → Option PortView → Line → Option PortView → List ℕ → Type 0
RunsLine telling number first old line.Skip new text = (new ≡ old) × (text ≡ [])
RunsLine telling number first old (line.Run command) new text = HasRun telling number first old command new text

-- lines, one after the other, none of which holds a line feed, and the number of the first: the text that they add, and the port
-- after them
pub data Adds (telling : Telling) : ℕ → Option PortView → List (List ℕ) → List ℕ → Option PortView → Type 0 where
  no_line : (number : ℕ) (port : Option PortView) → Adds telling number port [] [] port
  one_more : (number : ℕ) (port : Option PortView) (first : List ℕ) (l : Line) (next : Option PortView) (added : List ℕ) (more : List (List ℕ)) (text : List ℕ) (last : Option PortView)
      → found_of (first ++ 10 ∷ []) ≡ whole first → placed port first ≡ Some l → RunsLine telling number first port l next added → Adds telling (number + 1) next more text last
      → Adds telling number port (first ∷ more) (added ++ text) last

-- the text grew by what a line adds
pub record Grown (telling : Telling) (number : ℕ) (port_old : Option PortView) (text : List ℕ) (port_new : Option PortView) (old new : List ℕ) : Type 0 where
  pub spelled : Line
  pub is : placed port_old text ≡ Some spelled
  pub added : List ℕ
  pub ran : RunsLine telling number text port_old spelled port_new added
  pub grown : new ≡ old ++ added

-- the faults of a command: it is out of place, or there is no memory for it
abbrev pub IsCommandFault : Option PortView → ScriptCommand → ℕ → ScriptFault → Type 0
IsCommandFault port command n (fault.Line k) = (k ≡ n) × (is_in_place port command ≡ false)
IsCommandFault port command n fault.OutOfMemory = Unit {0}
IsCommandFault port command n _ = ⊥

-- the faults of a line: it is not understood or out of place, or there is no memory for it
abbrev pub IsLineFault : Option PortView → List ℕ → ℕ → ScriptFault → Type 0
IsLineFault port text n (fault.Line k) = (k ≡ n) × (placed port text ≡ None)
IsLineFault port text n fault.OutOfMemory = Unit {0}
IsLineFault port text n _ = ⊥

-- of what waits some first part is written, and the rest waits
pub record Sends (contents_old contents_new : Option (List ℕ)) (waiting left : List ℕ) : Type 0 where
  pub sent : List ℕ
  pub written : Appends contents_old contents_new sent
  pub said : waiting ≡ sent ++ left

-- some first part of a text is written
abbrev pub WritesPart : Option (List ℕ) → Option (List ℕ) → List ℕ → Type 0
WritesPart contents_old contents_new text = (count : ℕ) × Appends contents_old contents_new (take count text)

-- a line is answered, and what waits then may be written
pub record Answers (telling : Telling) (number : ℕ) (from : Place) (line : List ℕ) (to : Place) : Type 0 where
  pub waiting : List ℕ
  pub grown : Grown telling number from.port line to.port from.waiting waiting
  pub sends : Sends from.contents to.contents waiting to.waiting
  pub unfailed : to.failed ≡ from.failed

-- a script goes on: a line is answered; or all that waits is written, before more of the script is read
abbrev pub Takes : Telling → Place → ℕ → Begins → Place → Type 0
Takes telling from number (whole line) to = Answers telling number from line to
Takes telling from number too_long to = ⊥
Takes telling from number unfinished to =
    (to.port ≡ from.port) × (to.waiting ≡ []) × Appends from.contents to.contents from.waiting × (to.failed ≡ from.failed)

-- nothing was answered or written
abbrev pub Stays : Place → Place → Type 0
Stays from to = (to.contents ≡ from.contents) × (to.waiting ≡ from.waiting) × (to.failed ≡ from.failed)

-- a line is not answered; or its answer is written in part
abbrev pub RefusesLine : Telling → Place → ℕ → List ℕ → Place → ScriptFault → Type 0
RefusesLine telling from number line to (fault.Line k) = (k ≡ number) × (placed from.port line ≡ None) × Stays from to
RefusesLine telling from number line to fault.Read = ⊥
RefusesLine telling from number line to fault.Write =
    (waiting : List ℕ) × (port : Option PortView) × Grown telling number from.port line port from.waiting waiting × WritesPart from.contents to.contents waiting
    × (to.failed ≡ true)
RefusesLine telling from number line to fault.OutOfMemory = Stays from to

-- a script does not go on
abbrev pub Refuses : Telling → Place → ℕ → Begins → ScriptFault → Place → Type 0
Refuses telling from number (whole line) f to = RefusesLine telling from number line to f
Refuses telling from number too_long f to = (f ≡ fault.Line number) × Stays from to
Refuses telling from number unfinished f to = (f ≡ fault.Write) × WritesPart from.contents to.contents from.waiting × (to.failed ≡ true)

-- the lines of a whole input, the last of which may lack its line feed, and the text that they add, which is written
pub record Replayed (telling : Telling) (remaining_old remaining_new contents_old contents_new : Option (List ℕ)) : Type 0 where
  pub lines : List (List ℕ)
  pub rest : List ℕ
  pub text : List ℕ
  pub all : List ℕ
  pub port : Option PortView
  pub last_port : Option PortView
  pub answered : Adds telling 1 None lines text port
  pub unended : found_of rest ≡ unfinished
  pub last : Grown telling (length lines + 1) port rest last_port text all
  pub consumed : Consumes remaining_old remaining_new (with_feeds lines ++ rest)
  pub end : IsAtEnd remaining_new
  pub written : Appends contents_old contents_new all

-- lines at the front of an input, and the text that they add; what holds after them is said of the text, of what the reader has
-- left, of the port, of the bytes after the lines, and of the lines
pub record ReplayedFirst (telling : Telling) (remaining_old : Option (List ℕ))
    (P : List ℕ → Option (List ℕ) → Option PortView → List ℕ → List (List ℕ) → Type 0) : Type 0 where
  pub lines : List (List ℕ)
  pub rest : List ℕ
  pub remaining : Option (List ℕ)
  pub text : List ℕ
  pub port : Option PortView
  pub answered : Adds telling 1 None lines text port
  pub consumed : Consumes remaining_old remaining (with_feeds lines ++ rest)
  pub holds : P text remaining port rest lines

-- the next line is too long, or adds nothing; a line without its line feed is judged at the end of the input alone
abbrev pub IsFaulty : Option (List ℕ) → Option PortView → List ℕ → Type 0
IsFaulty remaining port rest = (found_of rest ≡ too_long) ⊎ ((line : List ℕ) × IsNext remaining rest line × (placed port line ≡ None))

-- the next line, of this number, may have been answered too
abbrev pub MayAnswer : Telling → ℕ → Option (List ℕ) → Option PortView → List ℕ → List ℕ → List ℕ → Type 0
MayAnswer telling number remaining port rest text all =
    (all ≡ text) ⊎ ((line : List ℕ) × (last_port : Option PortView) × IsNext remaining rest line × Grown telling number port line last_port text all)

-- how a fault ends a script: the answers to the lines before it are written, and nothing more is read. Where a read failed, no whole line is left
-- unanswered; a failed write leaves a first part of the answers
abbrev pub ReplayedTo : Telling → Option (List ℕ) → Option (List ℕ) → Option (List ℕ) → Option (List ℕ) → ScriptFault → Type 0
ReplayedTo telling r s c d (fault.Line n) =
    ReplayedFirst telling r (λ text remaining port rest lines. Appends c d text × ((remaining ≡ s) × ((n ≡ length lines + 1) × IsFaulty remaining port rest)))
ReplayedTo telling r s c d fault.Read =
    ReplayedFirst telling r (λ text remaining port rest lines. Appends c d text × ((found_of rest ≡ unfinished) × MayFail (length (with_feeds lines ++ rest)) remaining s))
ReplayedTo telling r s c d fault.OutOfMemory = ReplayedFirst telling r (λ text remaining port rest lines. Appends c d text × (remaining ≡ s))
ReplayedTo telling r s c d fault.Write =
    ReplayedFirst telling r (λ text remaining port rest lines. ReadsNoMore (length (with_feeds lines ++ rest)) rest remaining s
    × ((all : List ℕ) × MayAnswer telling (length lines + 1) remaining port rest text all × WritesPart c d all))

-- ---- how the writes and reads went

-- where a script ends early: a write failed, and the fault is that; or none did, and what was written is flushed
abbrev pub WritesTo : WrittenSoFar → WrittenSoFar → ScriptFault → Type 0
WritesTo old new fault.Write = new.failed ≡ true
WritesTo old new other = new ≡ with_flush old

-- where a script ends early: a read failed, or a byte came after the limit, and the fault is that; or no read failed. A failed
-- write is reported before a failed read
abbrev pub ReadsTo : ReadSoFar → ReadSoFar → ScriptFault → Type 0
ReadsTo old new fault.Read = FailsReading new
ReadsTo old new fault.Write = ⊤
ReadsTo old new other = new.failed ≡ old.failed

-- the same where more is written after the script: output or memory that is wanting then is reported before a failed read
abbrev pub ReadsBefore : ReadSoFar → ReadSoFar → ScriptFault → Type 0
ReadsBefore old new (fault.Line n) = new.failed ≡ old.failed
ReadsBefore old new fault.Read = FailsReading new
ReadsBefore old new other = ⊤
