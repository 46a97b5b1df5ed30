-- The complaints about the lines of a script or a job list, from the first line on, and how they are written.
use Rattle.std.specs.Prelude.{◌≡◌, ℕ, ◌+◌, Bool, false, ◌||◌, List, [], ◌∷◌, ◌++◌, Option, Some, None, is_some, length, ◌⊎◌}
use Rattle.std.specs.Io.KnownBytes.{Appends, Consumes}
use Rattle.streams.specs.Ends.{WrittenSoFar, with_failed_write}
use Rattle.ahci_replay.specs.Transcript.{Sends, WritesPart}
use Rattle.streams.specs.Reading.{Comes, MayEnd, last_of}
use Rattle.streams.specs.Unread.{Begins, MayFail, ReadsNoMore, found_of, line_limit, too_long, unfinished, whole, with_feeds}
use Rattle.ahci_script.specs.declared.fault.Fault.TheVariants.{LongLine}
use Rattle.ahci_check.specs.Json.{complaint_json}
use Rattle.ahci_check.specs.Judges.{complaint_by, judge_after}
use Rattle.ahci_check.specs.Texts.{complaint_text}
use Rattle.ahci_check.specs.declared.check_fault.CheckFault.{CheckFault}
use Rattle.ahci_check.specs.declared.check_fault.CheckFault.TheVariants as fault
use Rattle.ahci_check.specs.declared.complaint.Complaint.{Complaint}
use Rattle.ahci_check.specs.declared.form.Form.{Form}
use Rattle.ahci_check.specs.declared.form.Form.TheVariants as form
use Rattle.ahci_check.specs.declared.judge.Judge.{Judge}
use Rattle.ahci_check.specs.declared.rule.Rule.TheVariants.{Language}

-- the form of complaints, how the next line is judged, whether there was a complaint, and the text of all complaints
pub record Report : Type 0 where
  pub form : Form
  pub judge : Judge
  pub found : Bool
  pub text : List ℕ

-- before the first line, which is judged so
abbrev pub blank : Form → Judge → Report
blank form judge = record { form = form; judge = judge; found = false; text = [] }

-- a complaint in a form, without a line feed
abbrev pub complaint_as : Form → Complaint → List ℕ
complaint_as form.Text complaint = complaint_text complaint
complaint_as form.Json complaint = complaint_json complaint

-- what a complaint adds to the text: a line
abbrev pub told : Form → Option Complaint → List ℕ
told form None = []
told form (Some c) = complaint_as form c ++ 10 ∷ []

-- what there is to say of a line is put down
abbrev pub with_complaint : Report → Option Complaint → Judge → Report
with_complaint report complaint judge =
    record { form = report.form; judge = judge; found = report.found || is_some complaint; text = report.text ++ told report.form complaint }

-- the complaint about a line of more than 4,096 bytes, at the first byte after these
abbrev pub long_line : ℕ → Complaint
long_line number = record { line = number; column = Some (line_limit + 1); rule = Language LongLine }

-- what there is to say of what comes: a line, one that is too long, or more input
abbrev pub said_of : Judge → ℕ → Begins → Option Complaint
said_of judge number (whole line) = complaint_by judge number line
said_of judge number too_long = Some (long_line number)
said_of judge number unfinished = None

-- and how the next line is judged
abbrev pub next_judge : Judge → Begins → Judge
next_judge judge (whole line) = judge_after judge line
next_judge judge found = judge

-- what comes is judged
abbrev pub with_next : Report → ℕ → Begins → Report
with_next report number found = with_complaint report (said_of report.judge number found) (next_judge report.judge found)

-- lines are judged, the first of which has the given number
abbrev pub judged_from : ℕ → Report → List (List ℕ) → Report
judged_from number report [] = report
judged_from number report (line ∷ more) = judged_from (number + 1) (with_next report number (whole line)) more

-- the report of the first lines of an input
abbrev pub report_of : Form → Judge → List (List ℕ) → Report
report_of form judge lines = judged_from 1 (blank form judge) lines

-- and with what comes after them
abbrev pub with_found : Form → Judge → List (List ℕ) → Begins → Report
with_found form judge lines found = with_next (report_of form judge lines) (length lines + 1) found

-- ---- a whole input

-- lines of their own, none of which holds a line feed or is too long
pub data AreLines : List (List ℕ) → Type 0 where
  no_line : AreLines []
  one_more : (first : List ℕ) (more : List (List ℕ)) → found_of (first ++ 10 ∷ []) ≡ whole first → AreLines more → AreLines (first ∷ more)

-- lines at the front of an input, and what holds of them, of what the reader has left then, and of the bytes after them
pub record Judged (remaining_old : Option (List ℕ)) (P : List (List ℕ) → Option (List ℕ) → List ℕ → Type 0) : Type 0 where
  pub lines : List (List ℕ)
  pub rest : List ℕ
  pub remaining : Option (List ℕ)
  pub own : AreLines lines
  pub consumed : Consumes remaining_old remaining (with_feeds lines ++ rest)
  pub holds : P lines remaining rest

-- a whole input was judged: the text of all complaints is written, and the answer is whether there was one
abbrev pub IsChecked : Form → Judge → Option (List ℕ) → Option (List ℕ) → Option (List ℕ) → Option (List ℕ) → Bool → Type 0
IsChecked form judge r s c d found =
    Judged r (λ lines remaining rest. (remaining ≡ s) × MayEnd s rest × (found ≡ (with_found form judge lines (last_of rest)).found)
    × Appends c d (with_found form judge lines (last_of rest)).text)

-- why it isn't judged to its end: the text of the lines before is written, and nothing more is read; a failed write leaves a first part of it, and of what
-- there is to say of the next line
abbrev pub EndsCheck : Form → Judge → Option (List ℕ) → Option (List ℕ) → Option (List ℕ) → Option (List ℕ) → CheckFault → Type 0
EndsCheck form judge r s c d fault.Read =
    Judged r (λ lines remaining rest. (found_of rest ≡ unfinished) × MayFail (length (with_feeds lines ++ rest)) remaining s
    × Appends c d (report_of form judge lines).text)
EndsCheck form judge r s c d fault.OutOfMemory = Judged r (λ lines remaining rest. (remaining ≡ s) × Appends c d (report_of form judge lines).text)
EndsCheck form judge r s c d fault.Write =
    Judged r (λ lines remaining rest. ReadsNoMore (length (with_feeds lines ++ rest)) rest remaining s × (WritesPart c d (report_of form judge lines).text
    ⊎ ((found : Begins) × Comes remaining rest found × WritesPart c d (with_found form judge lines found).text)))

-- ---- as the lines come

-- the form of complaints, how the next line is judged, whether there was a complaint, the text that waits, and how the writes went
pub record Desk : Type 0 where
  pub form : Form
  pub judge : Judge
  pub found : Bool
  pub waiting : List ℕ
  pub writes : WrittenSoFar

-- a desk, and what the writer holds, where that is known
pub record Stand : Type 0 where
  pub contents : Option (List ℕ)
  pub desk : Desk

abbrev pub stand : Option (List ℕ) → Desk → Stand
stand contents desk = record { contents = contents; desk = desk }

-- a complaint, or none, is put down
abbrev pub with_put : Desk → Option Complaint → Judge → Desk
with_put desk complaint judge =
    record desk { judge = judge; found = desk.found || is_some complaint; waiting = desk.waiting ++ told desk.form complaint }

-- so it is, and what waits then may be written
pub record Tells (from : Stand) (complaint : Option Complaint) (judge : Judge) (to : Stand) : Type 0 where
  pub sends : Sends from.contents to.contents (from.desk.waiting ++ told from.desk.form complaint) to.desk.waiting
  pub form_same : to.desk.form ≡ from.desk.form
  pub judge_is : to.desk.judge ≡ judge
  pub found_is : to.desk.found ≡ (from.desk.found || is_some complaint)
  pub unfailed : to.desk.writes.failed ≡ from.desk.writes.failed

-- what comes is judged
abbrev pub Judges : Stand → ℕ → Begins → Stand → Type 0
Judges from number found to = Tells from (said_of from.desk.judge number found) (next_judge from.desk.judge found) to

-- nothing was put down or written for want of memory; or the output failed
abbrev pub FailsTelling : Stand → Option Complaint → CheckFault → Stand → Type 0
FailsTelling from complaint fault.OutOfMemory to =
    (to.contents ≡ from.contents) × (to.desk.waiting ≡ from.desk.waiting) × (to.desk.writes ≡ from.desk.writes)
FailsTelling from complaint fault.Write to =
    WritesPart from.contents to.contents (from.desk.waiting ++ told from.desk.form complaint) × (to.desk.writes ≡ with_failed_write from.desk.writes)
FailsTelling from complaint fault.Read to = ⊥

abbrev pub FailsJudging : Stand → ℕ → Begins → CheckFault → Stand → Type 0
FailsJudging from number found fault to = FailsTelling from (said_of from.desk.judge number found) fault to
