-- Lemmas about what is reported of lines, and how a check ends.
use Rattle.std.proofs.Common.{◌≡◌, ℕ, ◌+◌, ◌||◌, Bool, true, false, List, [], ◌∷◌, ◌++◌, Option, is_some, length, refl, sym, ap, ◌∙◌, subst, inl, inr, append_assoc, append-nil}
use Rattle.std.proofs.KnownBytes.{Appends-nil, Appends-trans, Consumes-nil}
use Rattle.std.specs.Io.KnownBytes.{Appends}
use Rattle.streams.specs.Ends.{ReadSoFar, WrittenSoFar, with_failed_write, with_flush}
use Rattle.ahci_replay.proofs.TranscriptLemmas.{sent_all, sent_part, with_flush_same}
use Rattle.ahci_replay.specs.Transcript.{Sends, WritesPart}
use Rattle.streams.proofs.ReadingLemmas.{first_map, first_none}
use Rattle.streams.specs.Reading as reading
use Rattle.streams.specs.Reading.{Comes, MayEnd, ReadsAll, ReadsAs, Step, StopsReading, Taken, TakenFirst, last_by, last_of}
use Rattle.streams.specs.Unread.{Begins, MayFail, ReadsNoMore, found_of, unfinished, whole, with_feeds}
use Rattle.streams.specs.declared.stopped.Stopped.{Stopped}
use Rattle.streams.specs.declared.stopped.Stopped.TheVariants as stopped
use Rattle.ahci_check.specs.Faults.{ReadsTo, WritesTo, fault_of, is_of_output}
use Rattle.ahci_check.specs.Reports.{AreLines, Desk, EndsCheck, FailsJudging, FailsTelling, IsChecked, Judged, Judges, Report, Stand, Tells, blank, judged_from, next_judge, no_line, one_more, said_of, report_of, stand, told, with_found, with_next, with_put}
use Rattle.ahci_check.specs.declared.check_fault.CheckFault.{CheckFault}
use Rattle.ahci_check.specs.declared.check_fault.CheckFault.TheVariants.{OutOfMemory, Read, Write}
use Rattle.ahci_check.specs.declared.complaint.Complaint.{Complaint}
use Rattle.ahci_check.specs.declared.form.Form.{Form}
use Rattle.ahci_check.specs.declared.judge.Judge.{Judge}

abbrev Known : Type 0
Known = Option (List ℕ)

abbrev Lines : Type 0
Lines = List (List ℕ)

-- ---- what is reported between two states

abbrev made : Form → Judge → Bool → List ℕ → Report
made form judge found text = record { form = form; judge = judge; found = found; text = text }

-- the report that begins with what waits
abbrev begun : Desk → Report
begun desk = made desk.form desk.judge desk.found desk.waiting

-- a report after other text
abbrev after : List ℕ → Report → Report
after text report = made report.form report.judge report.found (text ++ report.text)

-- a report is reported, which begins with what waited, and some first part of it is written
record Told (p : Stand) (report : Report) (q : Stand) : Type 0 where
  sends : Sends p.contents q.contents report.text q.desk.waiting
  form_is : q.desk.form ≡ report.form
  judge_is : q.desk.judge ≡ report.judge
  found_is : q.desk.found ≡ report.found

-- such a report is the one that begins with what waits then, after what was written
split : (p q : Stand) (report : Report) (h : Told p report q) → report ≡ after h.sends.sent (begun q.desk)
split p q report h =
    ap (λ x. made x report.judge report.found report.text) (sym h.form_is) ∙ ap (λ x. made q.desk.form x report.found report.text) (sym h.judge_is)
    ∙ ap (λ x. made q.desk.form q.desk.judge x report.text) (sym h.found_is) ∙ ap (λ x. made q.desk.form q.desk.judge q.desk.found x) h.sends.said

after_next : (text : List ℕ) (report : Report) (n : ℕ) (found : Begins) → with_next (after text report) n found ≡ after text (with_next report n found)
after_next text report n found =
    ap (λ x. made report.form (next_judge report.judge found) (report.found || is_some (said_of report.judge n found)) x) (append_assoc text report.text (told report.form (said_of report.judge n found)))

after_all : (text : List ℕ) (report : Report) (n : ℕ) (lines : Lines) → judged_from n (after text report) lines ≡ after text (judged_from n report lines)
after_all text report n [] = refl
after_all text report n (line ∷ more) =
    ap (λ s. judged_from (n + 1) s more) (after_next text report n (whole line)) ∙ after_all text (with_next report n (whole line)) (n + 1) more

-- what comes is reported
step : (p q : Stand) (n : ℕ) (found : Begins) → Judges p n found q → Told p (with_next (begun p.desk) n found) q
step p q n found h = record { sends = h.sends; form_is = h.form_same; judge_is = h.judge_is; found_is = h.found_is }

-- more is reported
more_told : (p q r : Stand) (report : Report) (F : Report → Report) → ((text : List ℕ) (s : Report) → F (after text s) ≡ after text (F s)) → Told p report q → Told q (F (begun q.desk)) r
    → Told p (F report) r
more_told p q r report F moves h k =
    let sent = h.sends.sent in
    let same = ap F (split p q report h) ∙ moves sent (begun q.desk) in
    subst (λ s. Told p s r) (sym same)
    (record {
      sends = record {
        sent = sent ++ k.sends.sent;
        written = Appends-trans p.contents q.contents r.contents sent k.sends.sent h.sends.written k.sends.written;
        said = ap (λ l. sent ++ l) k.sends.said ∙ sym (append_assoc sent k.sends.sent r.desk.waiting);
      };
      form_is = k.form_is;
      judge_is = k.judge_is;
      found_is = k.found_is;
    })

-- nothing was reported
nothing_told : (p : Stand) → Told p (begun p.desk) p
nothing_told p = record { sends = record { sent = []; written = Appends-nil p.contents; said = refl }; form_is = refl; judge_is = refl; found_is = refl }

or_false : (b : Bool) → (b || false) ≡ b
or_false true = refl
or_false false = refl

-- before more input nothing is reported
sent_before : (p q : Stand) (n : ℕ) → Judges p n unfinished q → Told p (begun p.desk) q
sent_before p q n h = record {
  sends = subst (λ t. Sends p.contents q.contents t q.desk.waiting) (append-nil p.desk.waiting) h.sends;
  form_is = h.form_same;
  judge_is = h.judge_is;
  found_is = h.found_is ∙ or_false p.desk.found;
}

-- ---- what is put down

abbrev Said : Type 0
Said = Option Complaint

-- it waits
pub waits : (c : Known) (old mid : Desk) (complaint : Said) (next : Judge) → mid ≡ with_put old complaint next → Tells (stand c old) complaint next (stand c mid)
waits c old mid complaint next is =
    subst (λ m. Tells (stand c old) complaint next (stand c m)) (sym is)
    (record { sends = record { sent = []; written = Appends-nil c; said = refl }; form_same = refl; judge_is = refl; found_is = refl; unfailed = refl })

-- it is written
pub put_sent : (c d : Known) (old mid new : Desk) (complaint : Said) (next : Judge) → mid ≡ with_put old complaint next → Appends c d mid.waiting → new.waiting ≡ [] → new.form ≡ mid.form
    → new.judge ≡ mid.judge → new.found ≡ mid.found → new.writes ≡ with_flush mid.writes → Tells (stand c old) complaint next (stand d new)
put_sent c d old mid new complaint next is written empty form judge found writes = record {
  sends = record {
    sent = mid.waiting;
    written = written;
    said = sym (ap (λ (x : Desk). x.waiting) is) ∙ sym (append-nil mid.waiting) ∙ ap (λ l. mid.waiting ++ l) (sym empty);
  };
  form_same = form ∙ ap (λ (x : Desk). x.form) is;
  judge_is = judge ∙ ap (λ (x : Desk). x.judge) is;
  found_is = found ∙ ap (λ (x : Desk). x.found) is;
  unfailed = ap (λ (w : WrittenSoFar). w.failed) writes ∙ ap (λ (x : Desk). x.writes.failed) is;
}

-- a first part of it is written
pub put_failed : (c d : Known) (old mid new : Desk) (complaint : Said) (next : Judge) → mid ≡ with_put old complaint next → WritesPart c d mid.waiting
    → new.writes ≡ with_failed_write mid.writes → FailsTelling (stand c old) complaint Write (stand d new)
put_failed c d old mid new complaint next is part failed = (subst (WritesPart c d) (ap (λ (x : Desk). x.waiting) is) part, failed)

-- ---- lines at the front of an input

-- how whoever takes the lines goes on, whose states these are
abbrev Goes : {S : Type 0} → (S → Stand) → Step S
Goes f old number found new = Judges (f old) number found (f new)

abbrev Fails : {S : Type 0} → (S → Stand) → S → ℕ → Begins → CheckFault → S → Type 0
Fails f old number found fault new = FailsJudging (f old) number found fault (f new)

own : {S : Type 0} (f : S → Stand) (a b : S) (n : ℕ) (lines : Lines) → Taken (Goes f) a n lines b → AreLines lines
own f a _ n _ (reading.nothing s k) = no_line
own f a b n _ (reading.one_more s k first t more u fed takes others) = one_more first more fed (own f t b (k + 1) more others)
own f a b n lines (reading.more_input s k t more u takes others) = own f t b k more others

all_told : {S : Type 0} (f : S → Stand) (a b : S) (n : ℕ) (lines : Lines) → Taken (Goes f) a n lines b → Told (f a) (judged_from n (begun (f a).desk) lines) (f b)
all_told f _ _ n _ (reading.nothing s k) = nothing_told (f s)
all_told f _ b n _ (reading.one_more s k first t more u fed takes others) =
    more_told (f s) (f t) (f b) (with_next (begun (f s).desk) k (whole first)) (λ x. judged_from (k + 1) x more) (λ text x. after_all text x (k + 1) more) (step (f s) (f t) k (whole first) takes)
    (all_told f t b (k + 1) more others)
all_told f _ b n lines (reading.more_input s k t more u takes others) =
    more_told (f s) (f t) (f b) (begun (f s).desk) (λ x. judged_from k x more) (λ text x. after_all text x k more) (sent_before (f s) (f t) k takes) (all_told f t b k more others)

-- no line was judged, and nothing waits
abbrev IsNew : Stand → Type 0
IsNew p = (p.desk.found ≡ false) × (p.desk.waiting ≡ [])

new_report : (p : Stand) → IsNew p → begun p.desk ≡ blank p.desk.form p.desk.judge
new_report p new = ap (λ x. made p.desk.form p.desk.judge x p.desk.waiting) new.0 ∙ ap (λ x. made p.desk.form p.desk.judge false x) new.1

first_judged : {S : Type 0} (f : S → Stand) (P : Lines → Known → List ℕ → S → Type 0) (Q : Lines → Known → List ℕ → Type 0) (r : Known) (a : S) → IsNew (f a)
    → ((lines : Lines) (remaining : Known) (rest : List ℕ) (to : S) → Told (f a) (report_of (f a).desk.form (f a).desk.judge lines) (f to) → P lines remaining rest to → Q lines remaining rest)
    → TakenFirst (Goes f) r a P → Judged r Q
first_judged f P Q r a new g h = record {
  lines = h.lines;
  rest = h.rest;
  remaining = h.remaining;
  own = own f a h.to 1 h.lines h.taken;
  consumed = h.consumed;
  holds = g h.lines h.remaining h.rest h.to (subst (λ s. Told (f a) (judged_from 1 s h.lines) (f h.to)) (new_report (f a) new) (all_told f a h.to 1 h.lines h.taken)) h.holds;
}

-- and what comes after them
found_told : (p q r : Stand) (form : Form) (judge : Judge) (lines : Lines) (found : Begins) → Told p (report_of form judge lines) q → Judges q (length lines + 1) found r
    → Told p (with_found form judge lines found) r
found_told p q r form judge lines found h takes =
    more_told p q r (report_of form judge lines) (λ x. with_next x (length lines + 1) found) (λ text x. after_next text x (length lines + 1) found) h (step q r (length lines + 1) found takes)

-- ---- a whole input

pub all_checked : {S : Type 0} (f : S → Stand) (r s d : Known) (a b : S) → IsNew (f a) → ReadsAll (Goes f) r s a b → Appends (f b).contents d (f b).desk.waiting
    → IsChecked (f a).desk.form (f a).desk.judge r s (f a).contents d (f b).desk.found
all_checked f r s d a b new reads sent =
    first_judged f _ _ r a new
    (λ lines remaining rest to so_far h.
    let last = found_told (f a) (f to) (f b) (f a).desk.form (f a).desk.judge lines (last_of rest) so_far h.2 in
    (h.0, h.1, last.found_is, sent_all (f a).contents (f b).contents d _ (f b).desk.waiting last.sends sent)) reads

-- what ends an input is what comes then
ends_with : (s : Known) (rest : List ℕ) → MayEnd s rest → Comes s rest (last_of rest)
ends_with s rest (inl long) = subst (λ k. Comes s rest (last_by k rest)) (sym long) long
ends_with s rest (inr end) = subst (λ k. Comes s rest (last_by k rest)) (sym end.1) (inr (end.0, end.1, refl))

-- the text of a whole input is written in part
pub all_part_checked : {S : Type 0} (f : S → Stand) (r s d : Known) (a b : S) → IsNew (f a) → ReadsAll (Goes f) r s a b → WritesPart (f b).contents d (f b).desk.waiting
    → EndsCheck (f a).desk.form (f a).desk.judge r s (f a).contents d Write
all_part_checked f r s d a b new reads part =
    first_judged f _ _ r a new
    (λ lines remaining rest to so_far h.
    let last = found_told (f a) (f to) (f b) (f a).desk.form (f a).desk.judge lines (last_of rest) so_far h.2 in
    (inl h.0, inr (last_of rest, subst (λ k. Comes k rest (last_of rest)) (sym h.0) (ends_with s rest h.1), sent_part (f a).contents (f b).contents d _ (f b).desk.waiting last.sends part))) reads

-- ---- a fault

-- no line was judged
nothing : (r : Known) (Q : Lines → Known → List ℕ → Type 0) → Q [] r [] → Judged r Q
nothing r Q holds = record { lines = []; rest = []; remaining = r; own = no_line; consumed = Consumes-nil r; holds = holds }

pub nothing_checked : (form : Form) (judge : Judge) (r c : Known) → EndsCheck form judge r r c c OutOfMemory
nothing_checked form judge r c = nothing r _ (refl, Appends-nil c)

-- nothing was reported or written since
abbrev Stays : Stand → Stand → Type 0
Stays p q = (q.contents ≡ p.contents) × (q.desk.waiting ≡ p.desk.waiting) × (q.desk.writes ≡ p.desk.writes)

stays : (p q : Stand) → q ≡ p → Stays p q
stays p q same = (ap (λ (x : Stand). x.contents) same, ap (λ (x : Stand). x.desk.waiting) same, ap (λ (x : Stand). x.desk.writes) same)

stays_written : (p q z : Stand) (d : Known) (report : Report) → Told p report q → Stays q z → Appends z.contents d z.desk.waiting → Appends p.contents d report.text
stays_written p q z d report told same sent =
    sent_all p.contents q.contents d report.text q.desk.waiting told.sends (subst (λ k. Appends k d q.desk.waiting) same.0 (subst (Appends z.contents d) same.1 sent))

stays_part : (p q z : Stand) (d : Known) (report : Report) → Told p report q → Stays q z → WritesPart z.contents d z.desk.waiting → WritesPart p.contents d report.text
stays_part p q z d report told same part =
    sent_part p.contents q.contents d report.text q.desk.waiting told.sends (subst (λ k. WritesPart k d q.desk.waiting) same.0 (subst (WritesPart z.contents d) same.1 part))

-- why a check ends after lines that were judged
abbrev Why : CheckFault → Known → Lines → Known → List ℕ → Type 0
Why Read s lines remaining rest = (found_of rest ≡ unfinished) × MayFail (length (with_feeds lines ++ rest)) remaining s
Why OutOfMemory s lines remaining rest = remaining ≡ s
Why Write s lines remaining rest = ⊥

-- and nothing more is read
no_more : (fault : CheckFault) (s : Known) (lines : Lines) (remaining : Known) (rest : List ℕ) → Why fault s lines remaining rest
    → ReadsNoMore (length (with_feeds lines ++ rest)) rest remaining s
no_more Read s lines remaining rest h = inr h
no_more OutOfMemory s lines remaining rest h = inl h
no_more Write s lines remaining rest h = absurd h

-- a fault but of the output: what was reported stays as it was
stopped_before : {S : Type 0} (f : S → Stand) (stop : Stopped CheckFault) (r s : Known) (a b : S) → is_of_output (fault_of stop) ≡ false → StopsReading (Goes f) (Fails f) r s a b stop
    → TakenFirst (Goes f) r a (λ lines remaining rest to. Stays (f to) (f b) × Why (fault_of stop) s lines remaining rest)
stopped_before f stopped.Read r s a b other h = first_map _ _ r a (λ lines remaining rest to holds. (stays (f to) (f b) (ap f holds.2), (holds.0, holds.1))) h
stopped_before f (stopped.Taker OutOfMemory) r s a b other h = first_map _ _ r a (λ lines remaining rest to holds. (holds.1.2, holds.0)) h
stopped_before f (stopped.Taker Read) r s a b other h = absurd h.holds.1.2
stopped_before f (stopped.Taker Write) r s a b other h = absurd (cc)
stopped_before f stopped.OutOfMemory r s a b other h = first_none _ r a (stays (f a) (f b) (ap f h.1), sym h.0)

ended : (form : Form) (judge : Judge) (fault : CheckFault) (r s c d : Known)
    → Judged r (λ lines remaining rest. Appends c d (report_of form judge lines).text × Why fault s lines remaining rest) → EndsCheck form judge r s c d fault
ended form judge Read r s c d h =
    record { lines = h.lines; rest = h.rest; remaining = h.remaining; own = h.own; consumed = h.consumed; holds = (h.holds.1.0, h.holds.1.1, h.holds.0) }
ended form judge OutOfMemory r s c d h =
    record { lines = h.lines; rest = h.rest; remaining = h.remaining; own = h.own; consumed = h.consumed; holds = (h.holds.1, h.holds.0) }
ended form judge Write r s c d h = absurd h.holds.1

pub fault_checked : {S : Type 0} (f : S → Stand) (stop : Stopped CheckFault) (r s d : Known) (a b : S) → IsNew (f a) → is_of_output (fault_of stop) ≡ false
    → StopsReading (Goes f) (Fails f) r s a b stop → Appends (f b).contents d (f b).desk.waiting → EndsCheck (f a).desk.form (f a).desk.judge r s (f a).contents d (fault_of stop)
fault_checked f stop r s d a b new other h sent =
    ended (f a).desk.form (f a).desk.judge (fault_of stop) r s (f a).contents d
    (first_judged f _ _ r a new (λ lines remaining rest to so_far holds. (stays_written (f a) (f to) (f b) d _ so_far holds.0 sent, holds.1)) (stopped_before f stop r s a b other h))

pub fault_part_checked : {S : Type 0} (f : S → Stand) (stop : Stopped CheckFault) (r s d : Known) (a b : S) → IsNew (f a) → is_of_output (fault_of stop) ≡ false
    → StopsReading (Goes f) (Fails f) r s a b stop → WritesPart (f b).contents d (f b).desk.waiting → EndsCheck (f a).desk.form (f a).desk.judge r s (f a).contents d Write
fault_part_checked f stop r s d a b new other h part =
    first_judged f _ _ r a new (λ lines remaining rest to so_far holds. (no_more (fault_of stop) s lines remaining rest holds.1, inl (stays_part (f a) (f to) (f b) d _ so_far holds.0 part))) (stopped_before f stop r s a b other h)

-- the output has failed on what there is to say of what comes
next_part : (p q : Stand) (d : Known) (report : Report) (n : ℕ) (found : Begins) → Told p report q → WritesPart q.contents d (with_next (begun q.desk) n found).text
    → WritesPart p.contents d (with_next report n found).text
next_part p q d report n found told part =
    sent_part p.contents q.contents d (with_next report n found).text (with_next (begun q.desk) n found).text
    (record {
      sent = told.sends.sent;
      written = told.sends.written;
      said = ap (λ (s : Report). s.text) (ap (λ s. with_next s n found) (split p q report told) ∙ after_next told.sends.sent (begun q.desk) n found);
    }) part

pub output_failed : {S : Type 0} (f : S → Stand) (stop : Stopped CheckFault) (r s : Known) (a b : S) → IsNew (f a) → is_of_output (fault_of stop) ≡ true
    → StopsReading (Goes f) (Fails f) r s a b stop → EndsCheck (f a).desk.form (f a).desk.judge r s (f a).contents (f b).contents (fault_of stop)
output_failed f (stopped.Taker Write) r s a b new is h =
    first_judged f _ _ r a new
    (λ lines remaining rest to so_far holds.
    let found = holds.1.0 in (
      inl holds.0,
      inr (
        found,
        subst (λ k. Comes k rest found) (sym holds.0) holds.1.1,
        next_part (f a) (f to) (f b).contents (report_of (f a).desk.form (f a).desk.judge lines) (length lines + 1) found so_far holds.1.2.0,
      ),
    )) h
output_failed f (stopped.Taker Read) r s a b new is h = absurd (cc)
output_failed f (stopped.Taker OutOfMemory) r s a b new is h = absurd (cc)
output_failed f stopped.Read r s a b new is h = absurd (cc)
output_failed f stopped.OutOfMemory r s a b new is h = absurd (cc)

-- ---- how the writes and reads went

-- no write failed while lines were judged
unfailed : {S : Type 0} (f : S → Stand) (a b : S) (n : ℕ) (lines : Lines) → Taken (Goes f) a n lines b → (f b).desk.writes.failed ≡ (f a).desk.writes.failed
unfailed f _ _ n _ (reading.nothing s k) = refl
unfailed f _ b n _ (reading.one_more s k first t more u fed takes others) = unfailed f t b (k + 1) more others ∙ takes.unfailed
unfailed f _ b n lines (reading.more_input s k t more u takes others) = unfailed f t b k more others ∙ takes.unfailed

pub whole_unfailed : {S : Type 0} (f : S → Stand) (r s : Known) (a b : S) → ReadsAll (Goes f) r s a b → (f b).desk.writes.failed ≡ (f a).desk.writes.failed
whole_unfailed f r s a b h = h.holds.2.unfailed ∙ unfailed f a h.to 1 h.lines h.taken

pub stopped_unfailed : {S : Type 0} (f : S → Stand) (stop : Stopped CheckFault) (r s : Known) (a b : S) → is_of_output (fault_of stop) ≡ false → StopsReading (Goes f) (Fails f) r s a b stop
    → (f b).desk.writes.failed ≡ (f a).desk.writes.failed
stopped_unfailed f stop r s a b other h =
    let before = stopped_before f stop r s a b other h in
    ap (λ (w : WrittenSoFar). w.failed) before.holds.0.2 ∙ unfailed f a before.to 1 before.lines before.taken

-- the writes, where what waits was written after a fault
pub writes_to : (fault : CheckFault) (old mid new : WrittenSoFar) → is_of_output fault ≡ false → mid.failed ≡ old.failed → new ≡ with_flush mid → WritesTo old new fault
writes_to Read old mid new other is sent = sent ∙ with_flush_same old mid is
writes_to OutOfMemory old mid new other is sent = ap (λ (w : WrittenSoFar). w.failed) sent ∙ is
writes_to Write old mid new other is sent = absurd (cc)

-- and where one failed
pub output_has_failed : {S : Type 0} (f : S → Stand) (stop : Stopped CheckFault) (r s : Known) (a b : S) (old : WrittenSoFar) → is_of_output (fault_of stop) ≡ true
    → StopsReading (Goes f) (Fails f) r s a b stop → WritesTo old (f b).desk.writes (fault_of stop)
output_has_failed f (stopped.Taker Write) r s a b old is h = h.holds.1.2.1
output_has_failed f (stopped.Taker Read) r s a b old is h = absurd (cc)
output_has_failed f (stopped.Taker OutOfMemory) r s a b old is h = absurd (cc)
output_has_failed f stopped.Read r s a b old is h = absurd (cc)
output_has_failed f stopped.OutOfMemory r s a b old is h = absurd (cc)

-- the reads, where the reading stopped
pub reads_to : {S : Type 0} (f : S → Stand) (stop : Stopped CheckFault) (r s : Known) (a b : S) (old new : ReadSoFar) → StopsReading (Goes f) (Fails f) r s a b stop → ReadsAs old new stop
    → ReadsTo old new (fault_of stop)
reads_to f stopped.Read r s a b old new h told = told
reads_to f (stopped.Taker OutOfMemory) r s a b old new h told = told
reads_to f (stopped.Taker Read) r s a b old new h told = absurd h.holds.1.2
reads_to f (stopped.Taker Write) r s a b old new h told = tt
reads_to f stopped.OutOfMemory r s a b old new h told = told
