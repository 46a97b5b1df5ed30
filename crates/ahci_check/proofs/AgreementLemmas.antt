-- A line that replay takes is taken by the check too, and both have a disk after it or neither.
use Rattle.std.proofs.Common.{◌≡◌, ℕ, suc, ◌+◌, ◌*◌, ◌/◌, ◌==◌, ◌||◌, Bool, true, false, cond, not, nat_lt, List, [], ◌∷◌, ◌++◌, Option, Some, None, Result, Ok, Err, is_none, is_some, length, option_and_then, refl, sym, ap, ◌∙◌, append-nil, arith}
use Rattle.std.proofs.lemmas.Bool.{cond-false, cond-true}
use Rattle.std.proofs.lemmas.List.{length-replicate}
use Rattle.std.specs.Option.{IsSomeAnd, unwrap_or}
use Rattle.std.specs.Prelude.{replicate}
use Rattle.std.specs.Result.{result_ok}
use Rattle.ncq_core.specs.DiskState.{most_depth, most_disk_sectors}
use Rattle.ahci_port.specs.Faults.{most_first}
use Rattle.ahci_check.proofs.ComplaintLemmas.{complaint_agrees}
use Rattle.ahci_check.specs.Limits.{disk_excess}
use Rattle.ahci_check.specs.Complaints.{complaint_in, ends_replay, first_wrong, is_in_place, place_after, place_by, stands_at}
use Rattle.ahci_check.specs.Judges.{judge_after}
use Rattle.ahci_check.specs.Reports.{Report, judged_from, with_next}
use Rattle.ahci_check.specs.declared.judge.Judge.TheVariants.{OfScript}
use Rattle.streams.specs.Unread.{whole}
use Rattle.ahci_check.specs.declared.place.Place.TheVariants.{BeforeDisk, AfterDisk}
use Rattle.ahci_port.specs.PortView.{PortView, port_from, sectors_in}
use Rattle.ahci_port.specs.Steps.{Appends, IsStepped, IsTaken, TakenBy, passes_end}
use Rattle.ahci_port.specs.declared.step.DeviceStep.{DeviceStep}
use Rattle.ahci_port.specs.declared.step.DeviceStep.TheVariants as device
use Rattle.ahci_port.specs.declared.step.Stepped.{Stepped}
use Rattle.ahci_replay.specs.Commands.{AnswersWindow, Does, MakesDisk, RefusedOr, Runs, RunsOn}
use Rattle.ahci_replay.specs.Commands as replay
use Rattle.ahci_replay.specs.Refusals.{disk_refusal, refusal_on}
use Rattle.ahci_table.specs.Window.{WindowState}
use Rattle.ncq_journal.specs.Entry.{Entry}
use Rattle.ncq_journal.specs.Request.{Request, request}
use Rattle.ncq_journal.specs.Work.{Work}
use Rattle.ahci_replay.specs.Transcript.{Adds, RunsLine, Telling, no_line, one_more, placed, placed_by}
use Rattle.ahci_script.specs.Lines.{line_of, reading}
use Rattle.ahci_script.specs.Words.{after_first}
use Rattle.ahci_script.specs.Said.{Said}
use Rattle.ahci_script.specs.declared.breach.Breach.{Breach}
use Rattle.ahci_script.specs.declared.line.Line.{Line}
use Rattle.ahci_script.specs.declared.line.Line.TheVariants.{Skip, Run}
use Rattle.ahci_script.specs.declared.line.ScriptCommand.{ScriptCommand}
use Rattle.ahci_script.specs.declared.line.ScriptCommand.TheVariants as command
use Rattle.port_refusal.specs.declared.refusal.Refusal.{Refusal}
use Rattle.ahci_check.specs.Agreement.{CheckAgrees, place_of}

-- ---- where a line is allowed

before : (c : ScriptCommand) → is_in_place BeforeDisk c ≡ replay.is_in_place None c
before (command.Disk sectors depth first) = refl
before _ = refl

later : (port : PortView) (c : ScriptCommand) → is_in_place (place_of (Some port)) c ≡ replay.is_in_place (Some port) c
later port (command.Disk sectors depth first) = refl
later port _ = refl

same_place : (port : Option PortView) (c : ScriptCommand) → is_in_place (place_of port) c ≡ replay.is_in_place port c
same_place None c = before c
same_place (Some port) c = later port c

taken : (b : Bool) (l : Line) → b ≡ is_some (cond b (Some l) None)
taken true l = refl
taken false l = refl

stands_alike : (port : Option PortView) (spelled : Option Line) → stands_at (place_of port) spelled ≡ is_some (option_and_then (placed_by port) spelled)
stands_alike port None = refl
stands_alike port (Some Skip) = refl
stands_alike port (Some (Run c)) = same_place port c ∙ taken (replay.is_in_place port c) (Run c)

not_some : {X : Type 0} (o : Option X) → not (is_some o) ≡ is_none o
not_some None = refl
not_some (Some x) = refl

stop_alike : (port : Option PortView) (number : ℕ) (line : List ℕ) → ends_replay (complaint_in (place_of port) number line) ≡ is_none (placed port line)
stop_alike port number line =
    complaint_agrees (place_of port) number line ∙ ap not (stands_alike port (line_of line)) ∙ not_some (placed port line)

-- ---- the place after a line

-- the limits of a disk come in the order of its refusals
none_alike : {X : Type 0} (a b c d e : Bool) (v w x y z : Option X) (p q r : Refusal) → is_none v ≡ false → is_none w ≡ false → is_none x ≡ false → is_none y ≡ false → is_none z ≡ false
    → is_none (cond a v (cond b w (cond c x (cond d y (cond e z None))))) ≡ is_none (cond (a || b) (Some p) (cond (c || d) (Some q) (cond e (Some r) None)))
none_alike true b c d e v w x y z p q r hv hw hx hy hz = hv
none_alike false true c d e v w x y z p q r hv hw hx hy hz = hw
none_alike false false true d e v w x y z p q r hv hw hx hy hz = hx
none_alike false false false true e v w x y z p q r hv hw hx hy hz = hy
none_alike false false false false true v w x y z p q r hv hw hx hy hz = hz
none_alike false false false false false v w x y z p q r hv hw hx hy hz = refl

pub disk_alike : (words : List ℕ) (sectors depth : ℕ) (first : Option ℕ) → is_none (disk_excess words sectors depth first) ≡ is_none (disk_refusal sectors depth first)
disk_alike words sectors depth first =
    none_alike (sectors == 0) (nat_lt most_disk_sectors sectors) (depth == 0) (nat_lt most_depth depth) (nat_lt most_first (unwrap_or first 0)) _ _ _ _ _ _ _ _ refl refl refl refl refl

-- a disk of so many sectors has them
sized : (sectors depth : ℕ) (first : Option ℕ) → AfterDisk sectors depth ≡ place_of (Some (port_from (unwrap_or first 0) (replicate (sectors * 512) 0) depth))
sized sectors depth first =
    let count : sectors * 512 / 512 ≡ sectors = omega arith in
    ap (λ n. AfterDisk n depth) (sym (ap (λ n. n / 512) (length-replicate (sectors * 512) 0) ∙ count))

made : (refusal : Option Refusal) (b : Bool) (sectors depth : ℕ) (first : Option ℕ) (next : Option PortView) (said : Said) → b ≡ is_none refusal
    → MakesDisk refusal sectors depth first next said → cond b (AfterDisk sectors depth) BeforeDisk ≡ place_of next
made (Some refusal) b sectors depth first next said is does = ap (λ t. cond t (AfterDisk sectors depth) BeforeDisk) is ∙ sym (ap place_of does.0)
made None b sectors depth first next said is does =
    ap (λ t. cond t (AfterDisk sectors depth) BeforeDisk) is ∙ sized sectors depth first ∙ sym (ap place_of does.0)

first_run : (line : List ℕ) (c : ScriptCommand) (next : Option PortView) (said : Said) → Runs None c next said → place_by BeforeDisk line (Ok (Run c)) ≡ place_of next
first_run line (command.Disk sectors depth first) next said ran =
    made (disk_refusal sectors depth first) _ sectors depth first next said (disk_alike (after_first line) sectors depth first) ran
first_run line (command.Write tag lba sectors fill) next said ran = absurd ran
first_run line _ next said ran = absurd ran

-- ---- no command adds a sector or a slot, or takes one

record SameSize (old new : PortView) : Type 0 where
  sectors : length new.starting ≡ length old.starting
  depth : new.depth ≡ old.depth

place_stays : (old new : PortView) → SameSize old new → place_of (Some old) ≡ place_of (Some new)
place_stays old new same = ap (λ n. AfterDisk (n / 512) old.depth) (sym same.sectors) ∙ ap (λ d. AfterDisk (sectors_in new) d) (sym same.depth)

unchanged : (old new : PortView) → new ≡ old → SameSize old new
unchanged old new same = record { sectors = ap (λ (p : PortView). length p.starting) same; depth = ap (λ (p : PortView). p.depth) same }

grown : (old new : PortView) (entry : Entry) → Appends old new entry → SameSize old new
grown old new entry h = record { sectors = ap length h.starting_same; depth = h.depth_same }

-- a refusal changes nothing
refused_or : (o : Option Refusal) (old new : PortView) (said : Said) (Done : Type 0) → (Done → SameSize old new) → RefusedOr o old new said Done → SameSize old new
refused_or None old new said Done does ran = does ran
refused_or (Some refusal) old new said Done does ran = unchanged old new ran.0

taken_size : (b : Bool) (tag : ℕ) (work : Work) (old new : PortView) (done : Stepped) → TakenBy b tag work old new done → SameSize old new
taken_size true tag work old new done h = grown old new _ h.appended
taken_size false tag work old new done h = grown old new _ h.appended

accepted_size : (o : Option Request) (tag : ℕ) (old new : PortView) (done : Stepped) → IsSomeAnd o (λ r. IsTaken tag r.work old new done) → SameSize old new
accepted_size None tag old new done h = absurd h
accepted_size (Some r) tag old new done h = taken_size (passes_end old r.work) tag r.work old new done h

stepped_size : (step : DeviceStep) (old new : PortView) (done : Stepped) → IsStepped step old new done → SameSize old new
stepped_size (device.Accept tag) old new done h = accepted_size (request old.past tag) tag old new done h
stepped_size (device.Serve tags) old new done h = record { sectors = ap length h.appended.starting_same; depth = h.appended.depth_same }
stepped_size (device.Fail tag error lba) old new done h = grown old new _ h.appended

does_size : (old new : PortView) (c : ScriptCommand) (said : Said) → Does old c new said → SameSize old new
does_size old new (command.Write tag lba count fill) said h = grown old new _ h.issued.appended
does_size old new (command.Read tag lba count) said h = grown old new _ h.issued.appended
does_size old new (command.Accept tag) said h = stepped_size (device.Accept tag) old new h.done h.stepped
does_size old new (command.Serve tags) said h = stepped_size (device.Serve tags) old new h.done h.stepped
does_size old new (command.Fail tag error lba) said h = stepped_size (device.Fail tag error lba) old new h.done h.stepped
does_size old new (command.Collect tag number) said h = grown old new _ h.collected.appended
does_size old new command.Recover said h = grown old new _ h.recovered.appended
does_size old new (command.Reissue tag) said h = grown old new _ h.0.appended
does_size old new (command.Identify w) said h = grown old new _ h.0.appended
does_size old new command.Flush said h = grown old new _ h.0.appended
does_size old new (command.Reg off) said h = unchanged old new h.0
does_size old new (command.Ack mask) said h =
    record { sectors = ap (λ (p : PortView). length p.starting) h.0; depth = ap (λ (p : PortView). p.depth) h.0 }
does_size old new (command.Show lba) said h = unchanged old new h.0
does_size old new command.Journal said h = unchanged old new h.0
does_size old new command.Trim said h =
    record { sectors = ap (λ (p : PortView). length p.starting) h.0 ∙ h.1; depth = ap (λ (p : PortView). p.depth) h.0 }
does_size old new (command.Raw tag w) said h = absurd h
does_size old new (command.Disk sectors depth first) said h = absurd h

window_size : (w : WindowState) (old new : PortView) (said : Said) → AnswersWindow w old new said → SameSize old new
window_size w old new said (replay.is_issued may fit issued told) = grown old new _ issued.appended
window_size w old new said (replay.is_refused fault name refuses named same told) = unchanged old new same

run_size : (old new : PortView) (c : ScriptCommand) (said : Said) → RunsOn old c new said → SameSize old new
run_size old new (command.Raw tag w) said ran = window_size _ old new said ran
run_size old new c said ran = refused_or (refusal_on old c) old new said (Does old c new said) (does_size old new c said) ran

run_alike : (line : List ℕ) (port : Option PortView) (c : ScriptCommand) (next : Option PortView) (said : Said) → Runs port c next said
    → place_by (place_of port) line (Ok (Run c)) ≡ place_of next
run_alike line None c next said ran = first_run line c next said ran
run_alike line (Some port) c (Some next) said ran = place_stays port next (run_size port next c said ran)
run_alike line (Some port) c None said ran = absurd ran

skipped : (line : List ℕ) (port : Option PortView) → place_by (place_of port) line (Ok Skip) ≡ place_of port
skipped line None = refl
skipped line (Some port) = refl

line_alike : (telling : Telling) (number : ℕ) (line : List ℕ) (port : Option PortView) (l : Line) (next : Option PortView) (added : List ℕ) → RunsLine telling number line port l next added
    → place_by (place_of port) line (Ok l) ≡ place_of next
line_alike telling number line port Skip next added ran = skipped line port ∙ sym (ap place_of ran.0)
line_alike telling number line port (Run c) next added ran = run_alike line port c next ran.said ran.ran

-- what was taken is the line itself
is_taken : (b : Bool) (x l : Line) → cond b (Some x) None ≡ Some l → x ≡ l
is_taken true x l is = ap (λ o. unwrap_or o x) is
is_taken false x l is = cc

spelled_alike : (telling : Telling) (number : ℕ) (line : List ℕ) (port : Option PortView) (read : Result Line Breach) (l : Line) (next : Option PortView) (added : List ℕ)
    → option_and_then (placed_by port) (result_ok read) ≡ Some l → RunsLine telling number line port l next added → place_by (place_of port) line read ≡ place_of next
spelled_alike telling number line port (Err breach) l next added is ran = cc
spelled_alike telling number line port (Ok Skip) l next added is ran =
    ap (λ x. place_by (place_of port) line (Ok x)) (is_taken true Skip l is) ∙ line_alike telling number line port l next added ran
spelled_alike telling number line port (Ok (Run c)) l next added is ran =
    ap (λ x. place_by (place_of port) line (Ok x)) (is_taken (replay.is_in_place port c) (Run c) l is) ∙ line_alike telling number line port l next added ran

after_alike : (telling : Telling) (number : ℕ) (line : List ℕ) (port : Option PortView) (l : Line) (next : Option PortView) (added : List ℕ)
    → placed port line ≡ Some l → RunsLine telling number line port l next added → place_after (place_of port) line ≡ place_of next
after_alike telling number line port l next added is ran = spelled_alike telling number line port (reading line) l next added is ran

stand_alike : (telling : Telling) (port last : Option PortView) (lines : List (List ℕ)) (text : List ℕ) (report : Report) (number : ℕ) → Adds telling number port lines text last
    → report.judge ≡ OfScript (place_of port) → (judged_from number report lines).judge ≡ OfScript (place_of last)
stand_alike telling port last lines text report number (no_line n same) is = is
stand_alike telling port last lines text report number (one_more n same first l next added more rest end own spelled ran others) is =
    stand_alike telling next last more rest (with_next report number (whole first)) (number + 1) others
    (ap (λ j. judge_after j first) is ∙ ap OfScript (after_alike telling number first port l next added spelled ran))

-- ---- the first line at which replay ends

-- lines that replay has answered have no complaint that ends it: the first such one comes after them
passed : (telling : Telling) (port last : Option PortView) (lines : List (List ℕ)) (text : List ℕ) (number : ℕ) (tail : List (List ℕ)) → Adds telling number port lines text last
    → first_wrong (place_of port) number (lines ++ tail) ≡ first_wrong (place_of last) (number + length lines) tail
passed telling port last lines text number tail (no_line n same) = ap (λ n. first_wrong (place_of port) n tail) (omega arith)
passed telling port last lines text number tail (one_more n same first l next added more rest end own spelled ran others) =
    let stops = stop_alike port number first ∙ ap is_none spelled in
    cond-false (ends_replay (complaint_in (place_of port) number first)) (Some number) _ stops
    ∙ ap (λ p. first_wrong p (number + 1) (more ++ tail)) (after_alike telling number first port l next added spelled ran)
    ∙ passed telling next last more rest (number + 1) tail others
    ∙ ap (λ n. first_wrong (place_of last) n tail) (let e : number + 1 + length more ≡ number + suc (length more) = omega arith in e)

none_ends : (telling : Telling) (last : Option PortView) (lines : List (List ℕ)) (text : List ℕ) → Adds telling 1 None lines text last → first_wrong BeforeDisk 1 lines ≡ None
none_ends telling last lines text answered =
    ap (first_wrong BeforeDisk 1) (sym (append-nil lines)) ∙ passed telling None last lines text 1 [] answered

first_ends : (telling : Telling) (last : Option PortView) (lines : List (List ℕ)) (text line : List ℕ) (more : List (List ℕ)) → Adds telling 1 None lines text last → placed last line ≡ None
    → first_wrong BeforeDisk 1 (lines ++ line ∷ more) ≡ Some (length lines + 1)
first_ends telling last lines text line more answered wrong =
    let number = 1 + length lines in
    passed telling None last lines text 1 (line ∷ more) answered
    ∙ cond-true (ends_replay (complaint_in (place_of last) number line)) (Some number) _ (stop_alike last number line ∙ ap is_none wrong)
    ∙ ap Some (let e : number ≡ length lines + 1 = omega arith in e)

pub check_agrees : CheckAgrees
check_agrees = record { stop = stop_alike; stand = stand_alike; none = none_ends; first = first_ends }
