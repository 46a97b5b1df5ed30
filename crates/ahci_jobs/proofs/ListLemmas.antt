-- Lemmas about how a job list is read.
use Rattle.std.proofs.Common.{◌≡◌, ℕ, ◌+◌, List, [], ◌++◌, Option, length, refl, sym, ap, ◌∙◌, subst, inl, inr, append_assoc, append-nil}
use Rattle.std.proofs.KnownBytes.{Consumes-nil}
use Rattle.std.specs.Io.KnownBytes.{Consumes, IsAtEnd}
use Rattle.ahci_script.specs.Jobs.{job_line_of}
use Rattle.streams.specs.Reading as reading
use Rattle.streams.specs.Reading.{Comes, MayEnd, ReadsAll, ReadsAs, Step, StopsReading, Taken, TakenFirst, fault_or, last_by, last_of}
use Rattle.streams.specs.Unread.{Begins, found_of, too_long, unfinished, whole, with_feeds}
use Rattle.streams.specs.declared.stopped.Stopped.{Stopped}
use Rattle.streams.specs.declared.stopped.Stopped.TheVariants as stopped
use Rattle.ncq_journal.specs.Work.{Work}
use Rattle.streams.specs.Ends.{ReadSoFar}
use Rattle.ahci_jobs.specs.Faults.{RunReads}
use Rattle.ahci_jobs.specs.JobList.{AreGood, IsBadNext, IsFaulty, IsListFault, IsListed, ListedFirst, Refuses, Takes, asked_in, commands_of, no_line, one_more}
use Rattle.ahci_jobs.specs.declared.jobs_fault.JobsFault.{JobsFault}
use Rattle.ahci_jobs.specs.declared.jobs_fault.JobsFault.TheVariants.{Line, Job, Read, Write, Unsettled, Lost, OutOfMemory}

abbrev pub Known : Type 0
Known = Option (List ℕ)

abbrev Lines : Type 0
Lines = List (List ℕ)

-- how whoever takes the lines goes on, who has these commands
abbrev Goes : {S : Type 0} → (S → List Work) → Step S
Goes f old number found new = Takes (f old) found (f new)

abbrev Fails : {S : Type 0} → (S → List Work) → S → ℕ → Begins → JobsFault → S → Type 0
Fails f old number found fault new = Refuses (f old) number found fault

-- the lines are good, and ask for what was added
good : {S : Type 0} (f : S → List Work) (a b : S) (n : ℕ) (lines : Lines) → Taken (Goes f) a n lines b → AreGood lines × (f b ≡ f a ++ asked_in lines)
good f _ _ n _ (reading.nothing s k) = (no_line, sym (append-nil (f s)))
good f _ b n _ (reading.one_more s k first t more u own takes others) =
    let rest = good f t b (k + 1) more others in (
      one_more first more own takes.0 rest.0,
      rest.1 ∙ ap (λ l. l ++ asked_in more) takes.1 ∙ append_assoc (f s) (commands_of (job_line_of first)) (asked_in more),
    )
good f _ b n lines (reading.more_input s k t more u takes others) =
    let rest = good f t b k more others in (rest.0, rest.1 ∙ ap (λ l. l ++ asked_in more) takes)

-- good lines at the front of an input
listed_first : {S : Type 0} (f : S → List Work) (P : Lines → Known → List ℕ → S → Type 0) (Q : Lines → Known → List ℕ → Type 0) (r : Known) (a : S) → f a ≡ []
    → ((lines : Lines) (remaining : Known) (rest : List ℕ) (to : S) → f to ≡ asked_in lines → P lines remaining rest to → Q lines remaining rest)
    → TakenFirst (Goes f) r a P → ListedFirst r Q
listed_first f P Q r a new g h =
    let so_far = good f a h.to 1 h.lines h.taken in
    record {
      lines = h.lines;
      rest = h.rest;
      remaining = h.remaining;
      good = so_far.0;
      consumed = h.consumed;
      holds = g h.lines h.remaining h.rest h.to (so_far.1 ∙ ap (λ l. l ++ asked_in h.lines) new) h.holds;
    }

-- what ends a list is a line at the end of its input
last_taken : (s : Known) (rest : List ℕ) (old new : List Work) → MayEnd s rest → Takes old (last_of rest) new
    → IsAtEnd s × (found_of rest ≡ unfinished) × Takes old (whole rest) new
last_taken s rest old new (inl long) takes = absurd (subst (λ k. Takes old (last_by k rest) new) long takes)
last_taken s rest old new (inr end) takes = (end.0, end.1, subst (λ k. Takes old (last_by k rest) new) end.1 takes)

-- a whole input
pub listed_all : {S : Type 0} (f : S → List Work) (r s : Known) (a b : S) → f a ≡ [] → ReadsAll (Goes f) r s a b → IsListed r s (f b)
listed_all f r s a b new h =
    let so_far = good f a h.to 1 h.lines h.taken in
    let last = last_taken s h.rest (f h.to) (f b) h.holds.1 h.holds.2 in
    record {
      lines = h.lines;
      rest = h.rest;
      good = so_far.0;
      unended = last.1;
      last = last.2.0;
      asked = last.2.1 ∙ ap (λ l. l ++ commands_of (job_line_of h.rest)) (so_far.1 ∙ ap (λ l. l ++ asked_in h.lines) new);
      consumed = subst (λ k. Consumes r k (with_feeds h.lines ++ h.rest)) h.holds.0 h.consumed;
      end = last.0;
    }

-- why a list ends after good lines
abbrev Why : Known → JobsFault → Lines → Known → List ℕ → Type 0
Why s (Line n) lines remaining rest = (remaining ≡ s) × ((n ≡ length lines + 1) × IsFaulty remaining rest)
Why s (Job i) lines remaining rest = (remaining ≡ s) × ((i ≡ length (asked_in lines)) × IsBadNext remaining rest)
Why s OutOfMemory lines remaining rest = remaining ≡ s
Why s fault lines remaining rest = ⊥

-- the next line is refused
refused_line : (fault : JobsFault) (line : List ℕ) (lines : Lines) (s : Known) (rest : List ℕ) → Comes s rest (whole line) → Refuses (asked_in lines) (length lines + 1) (whole line) fault
    → Why s fault lines s rest
refused_line (Line n) line lines s rest comes h = (refl, (h.0, inr (line, comes, h.1)))
refused_line (Job i) line lines s rest comes h = (refl, (h.0, (line, comes, h.1)))
refused_line OutOfMemory line lines s rest comes h = refl
refused_line _ line lines s rest comes h = absurd h

refused : (fault : JobsFault) (found : Begins) (lines : Lines) (s : Known) (rest : List ℕ) → Comes s rest found → Refuses (asked_in lines) (length lines + 1) found fault
    → Why s fault lines s rest
refused fault (whole line) lines s rest comes h = refused_line fault line lines s rest comes h
refused fault too_long lines s rest comes h = subst (λ f. Why s f lines s rest) (sym h) (refl, (refl, inl comes))
refused fault unfinished lines s rest comes h = absurd h

told : (fault : JobsFault) (r s : Known) → ListedFirst r (Why s fault) → IsListFault r s fault
told (Line n) r s h = h
told (Job i) r s h = h
told OutOfMemory r s h = h
told _ r s h = absurd h.holds

-- no memory at the start
pub nothing_listed : (r : Known) → IsListFault r r OutOfMemory
nothing_listed r = record { lines = []; rest = []; remaining = r; good = no_line; consumed = Consumes-nil r; holds = refl }

-- the fault where the reading stopped
abbrev pub list_fault_of : Stopped JobsFault → JobsFault
list_fault_of stopped = fault_or Read OutOfMemory stopped

-- how a fault ends a list
pub list_fault : {S : Type 0} (f : S → List Work) (stop : Stopped JobsFault) (r s : Known) (a b : S) → f a ≡ [] → StopsReading (Goes f) (Fails f) r s a b stop
    → IsListFault r s (list_fault_of stop)
list_fault f stopped.Read r s a b new h = listed_first f _ _ r a new (λ lines remaining rest to asked holds. (holds.0, holds.1)) h
list_fault f (stopped.Taker fault) r s a b new h =
    told fault r s
    (listed_first f _ _ r a new
    (λ lines remaining rest to asked holds.
    subst (λ k. Why s fault lines k rest) (sym holds.0)
    (refused fault holds.1.0 lines s rest holds.1.1 (subst (λ old. Refuses old (length lines + 1) holds.1.0 fault) asked holds.1.2))) h)
list_fault f stopped.OutOfMemory r s a b new h = subst (λ k. IsListFault r k OutOfMemory) (sym h.0) (nothing_listed r)

-- no line is refused with a failed read
never_read : (found : Begins) (old : List Work) (n : ℕ) → Refuses old n found Read → ⊥
never_read (whole line) old n h = h
never_read too_long old n h = cc
never_read unfinished old n h = h

-- the reads, where the reading stopped
pub list_reads : {S : Type 0} (f : S → List Work) (stop : Stopped JobsFault) (r s : Known) (a b : S) (old new : ReadSoFar) → StopsReading (Goes f) (Fails f) r s a b stop
    → ReadsAs old new stop → RunReads old new (list_fault_of stop)
list_reads f stopped.Read r s a b old new h told = told
list_reads f (stopped.Taker (Line n)) r s a b old new h told = told
list_reads f (stopped.Taker (Job i)) r s a b old new h told = told
list_reads f (stopped.Taker Read) r s a b old new h told = absurd (never_read h.holds.1.0 (f h.to) (length h.lines + 1) h.holds.1.2)
list_reads f (stopped.Taker OutOfMemory) r s a b old new h told = told
list_reads f (stopped.Taker Write) r s a b old new h told = told
list_reads f (stopped.Taker Unsettled) r s a b old new h told = told
list_reads f (stopped.Taker (Lost i)) r s a b old new h told = told
list_reads f stopped.OutOfMemory r s a b old new h told = told
