-- The program as a whole: what it writes and how it ends, for the words of its command line.
use Rattle.std.specs.Prelude.{◌≡◌, ◌<◌, ◌≤◌, ◌^◌, ℕ, Bool, true, false, List, [], ◌++◌, Option, Result, Ok, Err, ◌⊎◌, ⊤, take, codes}
use Rattle.std.specs.Fmt.{decimal}
use Rattle.std.specs.Io.KnownBytes.{Appends}
use Rattle.clap.specs.Words.{IsAmong}
use Rattle.clap.specs.declared.error.kind.ErrorKind.{ErrorKind}
use Rattle.clap.specs.declared.error.kind.ErrorKind.TheVariants as wrong
use Rattle.ahci_args.specs.Asking.{AsksFor}
use Rattle.ahci_args.specs.CommandLine.{PickWords}
use Rattle.ahci_args.specs.Usage.{usage_faults}
use Rattle.ahci_args.specs.declared.request.Asked.{Asked}
use Rattle.ahci_args.specs.declared.request.Asked.TheVariants.{Replay, Run, Identify, Log, Trace, Check, Draw}
use Rattle.ahci_args.specs.declared.run_form.RunForm.{RunForm}
use Rattle.ahci_args.specs.declared.run_form.RunForm.TheVariants as asked_form
use Rattle.ahci_check.specs.Reports.{EndsCheck, IsChecked}
use Rattle.ahci_check.specs.declared.form.Form as check
use Rattle.ahci_check.specs.declared.form.Form.TheVariants as told
use Rattle.ahci_check.specs.declared.judge.Judge.{Judge}
use Rattle.ahci_check.specs.declared.judge.Judge.TheVariants.{OfJobs, OfScript}
use Rattle.ahci_check.specs.declared.place.Place.TheVariants.{BeforeDisk}
use Rattle.ahci_cli.specs.Fault.{status_of}
use Rattle.ahci_cli.specs.Faults.{EndsPage, IsFaultOf, of_check, of_jobs, of_page, of_script}
use Rattle.ahci_cli.specs.declared.fault.CliFault.{CliFault}
use Rattle.ahci_cli.specs.declared.fault.CliFault.TheVariants as fault
use Rattle.ahci_cli.specs.declared.words_fault.WordsFault.{WordsFault}
use Rattle.ahci_cli.specs.declared.words_fault.WordsFault.TheVariants.{NotText, OutOfMemory}
use Rattle.ahci_draw.specs.Drawn.{Drawn, DrawnTo}
use Rattle.ahci_jobs.specs.RunJobs.{EndsRun, RunsJobs}
use Rattle.ahci_jobs.specs.Size.{size_of}
use Rattle.ahci_jobs.specs.declared.form.Form.{Form}
use Rattle.ahci_jobs.specs.declared.form.Form.TheVariants as form
use Rattle.ahci_replay.specs.Transcript.{Replayed, ReplayedTo, answers_alone}
use Rattle.ahci_trace.specs.Closing.{TracedTo}
use Rattle.ahci_trace.specs.Json.{json_line}
use Rattle.ahci_trace.specs.Text.{trace_text}
use Rattle.ata_pages.specs.Output.{identify_output, log_output}
use Rattle.streams.specs.Ends.{ReadSoFar, WrittenSoFar, with_failed_write, with_flush}
use Rattle.streams.specs.Unread.{FailsReading}

-- bytes that a reader has left, or that a writer holds, where they are known
abbrev pub Known : Type 0
Known = Option (List ℕ)

-- an input: what the reader has left, and how the reads went, before and after
pub record Input : Type 0 where
  pub had : Known
  pub left : Known
  pub before : ReadSoFar
  pub after : ReadSoFar

abbrev pub input : Known → Known → ReadSoFar → ReadSoFar → Input
input had left before after = record { had = had; left = left; before = before; after = after }

-- nothing was read of it
abbrev pub IsUnread : Input → Type 0
IsUnread i = (i.left ≡ i.had) × (i.after ≡ i.before)

-- an output: what the writer holds, and how the writes went, before and after
pub record Output : Type 0 where
  pub held : Known
  pub holds : Known
  pub before : WrittenSoFar
  pub after : WrittenSoFar

abbrev pub output : Known → Known → WrittenSoFar → WrittenSoFar → Output
output held holds before after = record { held = held; holds = holds; before = before; after = after }

-- nothing was written to it
abbrev pub IsUnwritten : Output → Type 0
IsUnwritten o = (o.holds ≡ o.held) × (o.after ≡ o.before)

-- the text of a fault, as standard error shows it
abbrev pub fault_text : CliFault → List ℕ
fault_text (fault.Line line) = codes "ahci: line " ++ (decimal line ++ codes ": not understood\n")
fault_text (fault.Job job) = codes "ahci: job " ++ (decimal job ++ codes ": bad count or address\n")
fault_text fault.Read = codes "ahci: input failed\n"
fault_text fault.CheckRead = codes "ahci: input failed\n"
fault_text fault.Write = codes "ahci: output failed\n"
fault_text fault.CheckWrite = codes "ahci: output failed\n"
fault_text fault.Unsettled = codes "ahci: run not settled\n"
fault_text (fault.Lost job) = codes "ahci: run not settled\n"
fault_text fault.OutOfMemory = codes "ahci: out of memory\n"

-- ---- what was asked for, done: whether a line that `check` judged is faulty, or why the program ends early

-- a call that went to its end, or ended early by one of its own faults
abbrev pub Did : {F : Type 0} → Type 0 → (F → CliFault) → (F → Type 0) → Result Bool CliFault → Type 0
Did whole into early (Ok false) = whole
Did whole into early (Ok true) = ⊥
Did whole into early (Err fault) = IsFaultOf into early fault

-- a page was written
abbrev pub IsPage : List ℕ → Bool → Output → Result Bool CliFault → Type 0
IsPage text raw o outcome = Did (Appends o.held o.holds text) of_page (EndsPage text raw o.held o.holds) outcome

-- the same, and nothing was read
abbrev pub DidPage : List ℕ → Bool → Input → Output → Result Bool CliFault → Type 0
DidPage text raw i o outcome = IsUnread i × IsPage text raw o outcome

-- the form of complaints that was asked for
abbrev pub form_of_check : Bool → check.Form
form_of_check false = told.Text
form_of_check true = told.Json

-- the first line is this to judge: a job's, or a script's before its disk
abbrev pub judge_of : Bool → Judge
judge_of false = OfScript BeforeDisk
judge_of true = OfJobs

-- lines were judged
abbrev pub DidCheck : check.Form → Judge → Input → Output → Result Bool CliFault → Type 0
DidCheck shape judge i o (Ok faulty) = IsChecked shape judge i.had i.left o.held o.holds faulty
DidCheck shape judge i o (Err fault) = IsFaultOf of_check (EndsCheck shape judge i.had i.left o.held o.holds) fault

-- the form of a run that was asked for
abbrev pub form_of : RunForm → Form
form_of asked_form.Text = form.Text
form_of asked_form.Json = form.Json
form_of asked_form.Journal = form.Journal
form_of asked_form.Image = form.Image

abbrev pub Does : Asked → Input → Output → Result Bool CliFault → Type 0
Does Replay i o outcome =
    Did (Replayed answers_alone i.had i.left o.held o.holds) of_script (ReplayedTo answers_alone i.had i.left o.held o.holds) outcome
Does (Trace false) i o outcome =
    Did (Replayed trace_text i.had i.left o.held o.holds) of_script (ReplayedTo trace_text i.had i.left o.held o.holds) outcome
Does (Trace true) i o outcome =
    Did (Replayed json_line i.had i.left o.held o.holds) of_script (TracedTo i.had i.left o.held o.holds) outcome
Does (Check jobs json) i o outcome = DidCheck (form_of_check json) (judge_of jobs) i o outcome
Does (Draw from to) i o outcome =
    Did (Drawn from to i.had i.left o.held o.holds) of_script (DrawnTo from to i.had i.left o.held o.holds) outcome
Does (Run workers depth sectors pick wanted) i o outcome =
    Did (RunsJobs (form_of wanted) (size_of workers depth sectors) i.had i.left o.held o.holds) of_jobs
    (EndsRun (form_of wanted) (size_of workers depth sectors) i.had i.left o.held o.holds) outcome
Does (Identify sectors depth raw) i o outcome = DidPage (identify_output sectors depth raw) raw i o outcome
Does (Log tag error lba raw) i o outcome = DidPage (log_output tag error lba raw) raw i o outcome

-- ---- how the reads and the writes went, by the outcome

-- a fault of the input is reported only if a read failed, or a byte came after the limit; and a read failed only if that is reported, or
-- output or memory was wanting, which is reported before it
abbrev pub ReadsFor : {T : Type 0} → ReadSoFar → ReadSoFar → Result T CliFault → Type 0
ReadsFor old new (Ok done) = new.failed ≡ old.failed
ReadsFor old new (Err fault.Read) = FailsReading new
ReadsFor old new (Err fault.CheckRead) = FailsReading new
ReadsFor old new (Err fault.Write) = ⊤
ReadsFor old new (Err fault.CheckWrite) = ⊤
ReadsFor old new (Err fault.OutOfMemory) = ⊤
ReadsFor old new (Err other) = new.failed ≡ old.failed

-- a fault of the output is reported exactly if a write or a flush failed; else what was written is flushed, unless memory was wanting
abbrev pub WritesFor : {T : Type 0} → WrittenSoFar → WrittenSoFar → Result T CliFault → Type 0
WritesFor old new (Ok done) = new ≡ with_flush old
WritesFor old new (Err fault.Write) = new.failed ≡ true
WritesFor old new (Err fault.CheckWrite) = new.failed ≡ true
WritesFor old new (Err fault.OutOfMemory) = new.failed ≡ old.failed
WritesFor old new (Err other) = (new ≡ with_flush old) ⊎ (new ≡ old)

pub record Went (i : Input) (o : Output) (outcome : Result Bool CliFault) : Type 0 where
  pub reads : ReadsFor i.before i.after outcome
  pub writes : WritesFor o.before o.after outcome

-- ---- what standard error has, and the status

-- the text was written, or, if a write failed, a first part of it
abbrev pub IsTold : Known → Known → List ℕ → Type 0
IsTold before after text = (n : ℕ) × Appends before after (take n text)

-- the whole text was written, once, and flushed; or a write or a flush failed, and a first part of it was written
abbrev pub IsWritten : Output → List ℕ → Type 0
IsWritten e text =
    (Appends e.held e.holds text × (e.after ≡ with_flush e.before)) ⊎ (IsTold e.held e.holds text × (e.after ≡ with_failed_write e.before))

-- of a good outcome nothing is reported, of a fault its text
abbrev pub Tells : Output → Result Bool CliFault → Type 0
Tells e (Ok faulty) = IsUnwritten e
Tells e (Err fault) = IsWritten e (fault_text fault)

-- 0 if all went to its end, 1 if a line that was judged is faulty, else the fault's
abbrev pub status_for : Result Bool CliFault → ℕ
status_for (Ok false) = 0
status_for (Ok true) = 1
status_for (Err fault) = status_of fault

-- the outcome is reported, and the status is its own
pub record Ends (e : Output) (status : ℕ) (outcome : Result Bool CliFault) : Type 0 where
  pub told : Tells e outcome
  pub status_is : status ≡ status_for outcome

-- ---- the whole

-- the words have no fault and ask for something, which is done, reported and ended
pub record Obeys (words : List (List ℕ)) (i : Input) (o e : Output) (status : ℕ) : Type 0 where
  pub asked : Asked
  pub asks : AsksFor words asked
  pub picks : PickWords
  pub sound : usage_faults picks words ≡ []
  pub outcome : Result Bool CliFault
  pub does : Does asked i o outcome
  pub went : Went i o outcome
  pub ends : Ends e status outcome

-- a text that was asked for is on the output, to its end or to where the output failed; an allocation for it may fail
abbrev pub IsShown : List ℕ → Output → Result Bool CliFault → Type 0
IsShown text o (Ok false) = Appends o.held o.holds text × (o.after ≡ with_flush o.before)
IsShown text o (Ok true) = ⊥
IsShown text o (Err fault.Write) = IsTold o.held o.holds text × (o.after ≡ with_failed_write o.before)
IsShown text o (Err fault.OutOfMemory) = IsUnwritten o
IsShown text o (Err other) = ⊥

-- help, or the version
pub record Shows (o e : Output) (status : ℕ) : Type 0 where
  pub text : List ℕ
  pub outcome : Result Bool CliFault
  pub shown : IsShown text o outcome
  pub ends : Ends e status outcome

-- a wrong command line: a text on the errors and 2; an allocation for the text may fail
abbrev pub Rejects : Output → ℕ → Type 0
Rejects e status = ((text : List ℕ) × IsWritten e text × (status ≡ 2)) ⊎ Ends e status (Err fault.OutOfMemory)

-- what the parser of the command line reports, by the kind of its fault
abbrev pub Says : ErrorKind → (o e : Output) → ℕ → Type 0
Says wrong.DisplayHelp o e status = Shows o e status
Says wrong.DisplayVersion o e status = Shows o e status
Says wrong.OutOfMemory o e status = IsUnwritten o × Ends e status (Err fault.OutOfMemory)
Says other o e status = IsUnwritten o × Rejects e status

-- the words have one of the faults that the parser's rules find in them, or the parser was out of memory; nothing is read
pub record Explains (words : List (List ℕ)) (i : Input) (o e : Output) (status : ℕ) : Type 0 where
  pub picks : PickWords
  pub kind : ErrorKind
  pub fails : (kind ≡ wrong.OutOfMemory) ⊎ IsAmong kind (usage_faults picks words)
  pub unread : IsUnread i
  pub says : Says kind o e status

-- a run of the program, by the words of its command line, standard input, output and error, and its status
abbrev pub Runs : List (List ℕ) → Input → (o e : Output) → ℕ → Type 0
Runs words i o e status = Obeys words i o e status ⊎ Explains words i o e status

-- the words could not be read: an argument is no text, or there is no memory
abbrev pub RunsWithout : WordsFault → (o e : Output) → ℕ → Type 0
RunsWithout NotText o e status = Says wrong.InvalidValue o e status ⊎ Says wrong.OutOfMemory o e status
RunsWithout OutOfMemory o e status = Says wrong.OutOfMemory o e status

-- the numbers of what is asked for are in their ranges
abbrev pub HasRanges : Asked → Type 0
HasRanges (Run workers depth sectors pick wanted) =
    (1 ≤ workers) × (workers ≤ 32) × (1 ≤ depth) × (depth ≤ 32) × (1 ≤ sectors) × (sectors ≤ 131072)
HasRanges (Identify sectors depth raw) = (1 ≤ depth) × (depth ≤ 32)
HasRanges (Log tag error lba raw) = (tag < 32) × (lba < 2 ^ 48)
HasRanges other = ⊤
