-- Lemmas about what lines add, and about how a script ends.
use Rattle.std.proofs.Common.{◌≡◌, ℕ, ◌+◌, true, false, List, [], ◌∷◌, ◌++◌, Option, None, length, take, refl, sym, ap, ◌∙◌, subst, inl, inr, append_assoc, append-nil}
use Rattle.std.proofs.KnownBytes.{Appends-nil, Appends-trans}
use Rattle.std.proofs.Math.Seq.{take-append-add}
use Rattle.std.specs.Io.KnownBytes.{Appends, Consumes, IsAtEnd}
use Rattle.streams.proofs.ReadingLemmas.{first_map, first_none}
use Rattle.streams.specs.Reading as reading
use Rattle.streams.specs.Reading.{Comes, IsNext, MayEnd, ReadsAll, Step, ReadsAs, StopsReading, Taken, TakenFirst, last_by, last_of}
use Rattle.streams.specs.Unread.{Begins, MayFail, ReadsNoMore, found_of, too_long, unfinished, whole, with_feeds}
use Rattle.streams.specs.declared.stopped.Stopped.{Stopped}
use Rattle.streams.specs.declared.stopped.Stopped.TheVariants as stopped
use Rattle.ahci_port.specs.PortView.{PortView}
use Rattle.streams.specs.Ends.{ReadSoFar, WrittenSoFar, with_flush}
use Rattle.ahci_replay.specs.Fault.{fault_of, is_of_output}
use Rattle.ahci_replay.specs.Place.{Place}
use Rattle.ahci_replay.specs.Transcript.{Adds, Answers, Grown, IsFaulty, MayAnswer, ReadsTo, Refuses, Replayed, ReplayedFirst, ReplayedTo, Sends, Stays, Takes, Telling}
use Rattle.ahci_replay.specs.Transcript.{WritesPart, WritesTo, no_line, one_more}
use Rattle.ahci_replay.specs.declared.script_fault.ScriptFault.{ScriptFault}
use Rattle.ahci_replay.specs.declared.script_fault.ScriptFault.TheVariants.{Line, Read, Write, OutOfMemory}

abbrev Known : Type 0
Known = Option (List ℕ)

abbrev Text : Type 0
Text = List ℕ

abbrev Port : Type 0
Port = Option PortView

-- ---- what is written

-- more text comes after what waits, and then more is written
sends_more : (c d e : Known) (waiting between text left : Text) → Sends c d waiting between → Sends d e (between ++ text) left → Sends c e (waiting ++ text) left
sends_more c d e waiting between text left p q = record {
  sent = p.sent ++ q.sent;
  written = Appends-trans c d e p.sent q.sent p.written q.written;
  said = ap (λ l. l ++ text) p.said ∙ append_assoc p.sent between text ∙ ap (λ l. p.sent ++ l) q.said ∙ sym (append_assoc p.sent q.sent left);
}

-- more text comes after what waits
sends_text : (c d : Known) (waiting left text : Text) → Sends c d waiting left → Sends c d (waiting ++ text) (left ++ text)
sends_text c d waiting left text p =
    record { sent = p.sent; written = p.written; said = ap (λ l. l ++ text) p.said ∙ append_assoc p.sent left text }

-- what was left is written
pub sent_all : (c d e : Known) (waiting left : Text) → Sends c d waiting left → Appends d e left → Appends c e waiting
sent_all c d e waiting left p rest = subst (Appends c e) (sym p.said) (Appends-trans c d e p.sent left p.written rest)

take_after : (c d e : Known) (sent left : Text) (count : ℕ) → Appends c d sent → Appends d e (take count left) → Appends c e (take (length sent + count) (sent ++ left))
take_after c d e sent left count p q = rw (take-append-add sent left count) (Appends-trans c d e sent (take count left) p q)

-- some first part of what was left is written
pub sent_part : (c d e : Known) (waiting left : Text) → Sends c d waiting left → WritesPart d e left → WritesPart c e waiting
sent_part c d e waiting left p rest =
    (length p.sent + rest.0, subst (λ l. Appends c e (take (length p.sent + rest.0) l)) (sym p.said) (take_after c d e p.sent left rest.0 p.written rest.1))

-- ---- what lines add

-- lines were answered
record Answered (telling : Telling) (number : ℕ) (from : Place) (lines : List Text) (to : Place) : Type 0 where
  pub text : Text
  pub adds : Adds telling number from.port lines text to.port
  pub sends : Sends from.contents to.contents (from.waiting ++ text) to.waiting

-- how whoever takes the lines goes on, whose places these are
abbrev Goes : {S : Type 0} → Telling → (S → Place) → Step S
Goes telling f old number found new = Takes telling (f old) number found (f new)

abbrev Fails : {S : Type 0} → Telling → (S → Place) → S → ℕ → Begins → ScriptFault → S → Type 0
Fails telling f old number found fault new = Refuses telling (f old) number found fault (f new)

answered_line : {telling : Telling} (n : ℕ) (a b c : Place) (first : Text) (more : List Text) → found_of (first ++ 10 ∷ []) ≡ whole first → Answers telling n a first b
    → Answered telling (n + 1) b more c → Answered telling n a (first ∷ more) c
answered_line n a b c first more own line rest =
    let g = line.grown in
    record {
      text = g.added ++ rest.text;
      adds = one_more n a.port first g.spelled b.port g.added more rest.text c.port own g.is g.ran rest.adds;
      sends = subst (λ w. Sends a.contents c.contents w c.waiting) (ap (λ w. w ++ rest.text) g.grown ∙ append_assoc a.waiting g.added rest.text)
          (sends_more a.contents b.contents c.contents line.waiting b.waiting rest.text c.waiting line.sends rest.sends);
    }

answered_more : {telling : Telling} (n : ℕ) (a b c : Place) (lines : List Text) → b.port ≡ a.port → b.waiting ≡ [] → Appends a.contents b.contents a.waiting
    → Answered telling n b lines c → Answered telling n a lines c
answered_more {telling} n a b c lines same none sent rest = record {
  text = rest.text;
  adds = subst (λ p. Adds telling n p lines rest.text c.port) same rest.adds;
  sends = sends_more a.contents b.contents c.contents a.waiting [] rest.text c.waiting (record { sent = a.waiting; written = sent; said = sym (append-nil a.waiting) })
      (subst (λ w. Sends b.contents c.contents (w ++ rest.text) c.waiting) none rest.sends);
}

answered : {S : Type 0} (telling : Telling) (f : S → Place) (a b : S) (n : ℕ) (lines : List Text) → Taken (Goes telling f) a n lines b → Answered telling n (f a) lines (f b)
answered telling f _ _ n _ (reading.nothing s k) =
    record { text = []; adds = no_line k (f s).port; sends = record { sent = []; written = Appends-nil (f s).contents; said = append-nil (f s).waiting } }
answered telling f _ b n _ (reading.one_more s k first t more u own takes others) =
    answered_line k (f s) (f t) (f b) first more own takes (answered telling f t b (k + 1) more others)
answered telling f _ b n lines (reading.more_input s k t more u takes others) =
    answered_more k (f s) (f t) (f b) more takes.0 takes.1 takes.2 (answered telling f t b k more others)

-- a script of which nothing was answered
abbrev IsNew : Place → Type 0
IsNew p = (p.waiting ≡ []) × (p.port ≡ None)

-- lines at the front of a script
first_answered : {S : Type 0} (telling : Telling) (f : S → Place) (P : List Text → Known → Text → S → Type 0) (Q : Text → Known → Port → Text → List Text → Type 0)
    (r : Known) (a : S) → IsNew (f a)
    → ((text : Text) (lines : List Text) (remaining : Known) (rest : Text) (to : S) → Sends (f a).contents (f to).contents text (f to).waiting
    → P lines remaining rest to → Q text remaining (f to).port rest lines)
    → TakenFirst (Goes telling f) r a P → ReplayedFirst telling r Q
first_answered telling f P Q r a new g h =
    let so_far = answered telling f a h.to 1 h.lines h.taken in
    record {
      lines = h.lines;
      rest = h.rest;
      remaining = h.remaining;
      text = so_far.text;
      port = (f h.to).port;
      answered = subst (λ p. Adds telling 1 p h.lines so_far.text (f h.to).port) new.1 so_far.adds;
      consumed = h.consumed;
      holds = g so_far.text h.lines h.remaining h.rest h.to (subst (λ w. Sends (f a).contents (f h.to).contents (w ++ so_far.text) (f h.to).waiting) new.0 so_far.sends) h.holds;
    }

-- ---- a whole script

-- what ends a script is a line at the end of its input
last_answers : (telling : Telling) (s : Known) (rest : Text) (n : ℕ) (p q : Place) → MayEnd s rest → Takes telling p n (last_of rest) q
    → IsAtEnd s × (found_of rest ≡ unfinished) × Answers telling n p rest q
last_answers telling s rest n p q (inl long) takes = absurd (subst (λ k. Takes telling p n (last_by k rest) q) long takes)
last_answers telling s rest n p q (inr end) takes = (end.0, end.1, subst (λ k. Takes telling p n (last_by k rest) q) end.1 takes)

-- the same line after other text
rebased : {telling : Telling} (n : ℕ) (p q : Port) (line text waiting all : Text) (g : Grown telling n p line q waiting all) → Grown telling n p line q text (text ++ g.added)
rebased n p q line text waiting all g = record { spelled = g.spelled; is = g.is; added = g.added; ran = g.ran; grown = refl }

-- a last line after the text
with_answer : {telling : Telling} (n : ℕ) (c : Known) (p q : Place) (line text : Text) (h : Answers telling n p line q) → Sends c p.contents text p.waiting
    → Sends c q.contents (text ++ h.grown.added) q.waiting
with_answer n c p q line text h sends =
    sends_more c p.contents q.contents text p.waiting h.grown.added q.waiting sends (subst (λ w. Sends p.contents q.contents w q.waiting) h.grown.grown h.sends)

pub all_replayed : {S : Type 0} (telling : Telling) (f : S → Place) (r s d : Known) (a b : S) → IsNew (f a) → ReadsAll (Goes telling f) r s a b
    → Appends (f b).contents d (f b).waiting → Replayed telling r s (f a).contents d
all_replayed telling f r s d a b new h sent =
    let so_far = answered telling f a h.to 1 h.lines h.taken in
    let last = last_answers telling s h.rest (length h.lines + 1) (f h.to) (f b) h.holds.1 h.holds.2 in
    let sends = subst (λ w. Sends (f a).contents (f h.to).contents (w ++ so_far.text) (f h.to).waiting) new.0 so_far.sends in
    record {
      lines = h.lines;
      rest = h.rest;
      text = so_far.text;
      all = so_far.text ++ last.2.grown.added;
      port = (f h.to).port;
      last_port = (f b).port;
      answered = subst (λ p. Adds telling 1 p h.lines so_far.text (f h.to).port) new.1 so_far.adds;
      unended = last.1;
      last = rebased (length h.lines + 1) (f h.to).port (f b).port h.rest so_far.text _ _ last.2.grown;
      consumed = subst (λ k. Consumes r k (with_feeds h.lines ++ h.rest)) h.holds.0 h.consumed;
      end = last.0;
      written = sent_all (f a).contents (f b).contents d (so_far.text ++ last.2.grown.added) (f b).waiting
          (with_answer (length h.lines + 1) (f a).contents (f h.to) (f b) h.rest so_far.text last.2 sends) sent;
    }

-- the answers to a whole script are written in part
pub all_part_written : {S : Type 0} (telling : Telling) (f : S → Place) (r s d : Known) (a b : S) → IsNew (f a) → ReadsAll (Goes telling f) r s a b
    → WritesPart (f b).contents d (f b).waiting → ReplayedTo telling r s (f a).contents d Write
all_part_written telling f r s d a b new h part =
    first_answered telling f _ _ r a new
    (λ text lines remaining rest to sends holds.
    let last = last_answers telling s rest (length lines + 1) (f to) (f b) holds.1 holds.2 in (
      inl holds.0,
      (
        text ++ last.2.grown.added,
        inr (rest, (f b).port, subst (λ k. IsNext k rest rest) (sym holds.0) (inr (last.0, last.1, refl)), rebased (length lines + 1) (f to).port (f b).port rest text _ _ last.2.grown),
        sent_part (f a).contents (f b).contents d (text ++ last.2.grown.added) (f b).waiting (with_answer (length lines + 1) (f a).contents (f to) (f b) rest text last.2 sends) part,
      ),
    )) h

-- ---- a fault

-- why a script ends after lines that are answered
abbrev Why : Known → ScriptFault → List Text → Known → Port → Text → Type 0
Why s (Line n) lines remaining port rest = (remaining ≡ s) × ((n ≡ length lines + 1) × IsFaulty remaining port rest)
Why s Read lines remaining port rest = (found_of rest ≡ unfinished) × MayFail (length (with_feeds lines ++ rest)) remaining s
Why s Write lines remaining port rest = ⊥
Why s OutOfMemory lines remaining port rest = remaining ≡ s

-- and nothing more is read
no_more : (s : Known) (fault : ScriptFault) (lines : List Text) (remaining : Known) (port : Port) (rest : Text) → Why s fault lines remaining port rest
    → ReadsNoMore (length (with_feeds lines ++ rest)) rest remaining s
no_more s (Line n) lines remaining port rest h = inl h.0
no_more s Read lines remaining port rest h = inr h
no_more s Write lines remaining port rest h = absurd h
no_more s OutOfMemory lines remaining port rest h = inl h

refused : (telling : Telling) (s : Known) (fault : ScriptFault) (found : Begins) (lines : List Text) (rest : Text) (p q : Place) → is_of_output fault ≡ false
    → Comes s rest found → Refuses telling p (length lines + 1) found fault q → Stays p q × Why s fault lines s p.port rest
refused telling s (Line n) (whole line) lines rest p q other comes h = (h.2, (refl, (h.0, inr (line, comes, h.1))))
refused telling s (Line n) too_long lines rest p q other comes h =
    (h.1, (refl, (ap number h.0, inl comes)))
  where
    number : ScriptFault → ℕ
    number (Line k) = k
    number f = 0
refused telling s (Line n) unfinished lines rest p q other comes h = absurd (cc)
refused telling s Read (whole line) lines rest p q other comes h = absurd h
refused telling s Read too_long lines rest p q other comes h = absurd (cc)
refused telling s Read unfinished lines rest p q other comes h = absurd (cc)
refused telling s Write found lines rest p q other comes h = absurd (cc)
refused telling s OutOfMemory (whole line) lines rest p q other comes h = (h, refl)
refused telling s OutOfMemory too_long lines rest p q other comes h = (h.1, refl)
refused telling s OutOfMemory unfinished lines rest p q other comes h = absurd (cc)

-- a fault but of the output: what was answered is as it was
stopped_before : {S : Type 0} (telling : Telling) (f : S → Place) (stop : Stopped ScriptFault) (r s : Known) (a b : S) → is_of_output (fault_of stop) ≡ false
    → StopsReading (Goes telling f) (Fails telling f) r s a b stop
    → TakenFirst (Goes telling f) r a (λ lines remaining rest to. Stays (f to) (f b) × Why s (fault_of stop) lines remaining (f to).port rest)
stopped_before telling f stopped.Read r s a b other h =
    first_map _ _ r a (λ lines remaining rest to holds. ((ap (λ x. (f x).contents) holds.2, ap (λ x. (f x).waiting) holds.2, ap (λ x. (f x).failed) holds.2), (holds.0, holds.1))) h
stopped_before telling f (stopped.Taker fault) r s a b other h =
    first_map _ _ r a
    (λ lines remaining rest to holds.
    let now = refused telling s fault holds.1.0 lines rest (f to) (f b) other holds.1.1 holds.1.2 in
    (now.0, subst (λ k. Why s fault lines k (f to).port rest) (sym holds.0) now.1)) h
stopped_before telling f stopped.OutOfMemory r s a b other h =
    first_none _ r a ((ap (λ x. (f x).contents) h.1, ap (λ x. (f x).waiting) h.1, ap (λ x. (f x).failed) h.1), sym h.0)

-- and then what waits is written
stays_written : (c d : Known) (text : Text) (p q : Place) → Sends c p.contents text p.waiting → Stays p q → Appends q.contents d q.waiting → Appends c d text
stays_written c d text p q sends stays sent =
    sent_all c p.contents d text p.waiting sends (subst (λ k. Appends k d p.waiting) stays.0 (subst (Appends q.contents d) stays.1 sent))

stays_part : (c d : Known) (text : Text) (p q : Place) → Sends c p.contents text p.waiting → Stays p q → WritesPart q.contents d q.waiting → WritesPart c d text
stays_part c d text p q sends stays part =
    sent_part c p.contents d text p.waiting sends (subst (λ k. WritesPart k d p.waiting) stays.0 (subst (WritesPart q.contents d) stays.1 part))

told : (telling : Telling) (fault : ScriptFault) (r s c d : Known)
    → ReplayedFirst telling r (λ text remaining port rest lines. Appends c d text × Why s fault lines remaining port rest) → ReplayedTo telling r s c d fault
told telling (Line n) r s c d h = h
told telling Read r s c d h = h
told telling OutOfMemory r s c d h = h
told telling Write r s c d h = absurd h.holds.1

pub fault_written : {S : Type 0} (telling : Telling) (f : S → Place) (stop : Stopped ScriptFault) (r s d : Known) (a b : S) → IsNew (f a)
    → is_of_output (fault_of stop) ≡ false → StopsReading (Goes telling f) (Fails telling f) r s a b stop → Appends (f b).contents d (f b).waiting
    → ReplayedTo telling r s (f a).contents d (fault_of stop)
fault_written telling f stop r s d a b new other h sent =
    told telling (fault_of stop) r s (f a).contents d
    (first_answered telling f _ _ r a new
    (λ text lines remaining rest to sends holds. (stays_written (f a).contents d text (f to) (f b) sends holds.0 sent, holds.1))
    (stopped_before telling f stop r s a b other h))

pub fault_part_written : {S : Type 0} (telling : Telling) (f : S → Place) (stop : Stopped ScriptFault) (r s d : Known) (a b : S) → IsNew (f a)
    → is_of_output (fault_of stop) ≡ false → StopsReading (Goes telling f) (Fails telling f) r s a b stop → WritesPart (f b).contents d (f b).waiting
    → ReplayedTo telling r s (f a).contents d Write
fault_part_written telling f stop r s d a b new other h part =
    first_answered telling f _ _ r a new
    (λ text lines remaining rest to sends holds. (no_more s (fault_of stop) lines remaining (f to).port rest holds.1, (text, inl refl, stays_part (f a).contents d text (f to) (f b) sends holds.0 part)))
    (stopped_before telling f stop r s a b other h)

-- the output has failed on an answer, or on what waited
cut_off : (telling : Telling) (c s remaining : Known) (found : Begins) (n : ℕ) (text rest : Text) (p q : Place) → remaining ≡ s → Comes s rest found
    → Refuses telling p n found Write q → Sends c p.contents text p.waiting
    → (all : Text) × MayAnswer telling n remaining p.port rest text all × WritesPart c q.contents all
cut_off telling c s remaining (whole line) n text rest p q same comes h sends =
    let g = h.2 in (
      text ++ g.added,
      inr (line, h.1, subst (λ k. IsNext k rest line) (sym same) comes, rebased n p.port h.1 line text _ _ g),
      sent_part c p.contents q.contents (text ++ g.added) (p.waiting ++ g.added) (sends_text c p.contents text p.waiting g.added sends)
          (subst (WritesPart p.contents q.contents) g.grown h.3),
    )
cut_off telling c s remaining too_long n text rest p q same comes h sends = absurd (cc)
cut_off telling c s remaining unfinished n text rest p q same comes h sends =
    (text, inl refl, sent_part c p.contents q.contents text p.waiting sends h.1)

pub output_failed : {S : Type 0} (telling : Telling) (f : S → Place) (stop : Stopped ScriptFault) (r s : Known) (a b : S) → IsNew (f a)
    → is_of_output (fault_of stop) ≡ true → StopsReading (Goes telling f) (Fails telling f) r s a b stop → ReplayedTo telling r s (f a).contents (f b).contents (fault_of stop)
output_failed telling f (stopped.Taker Write) r s a b new is h =
    first_answered telling f _ _ r a new
    (λ text lines remaining rest to sends holds.
    (inl holds.0, cut_off telling (f a).contents s remaining holds.1.0 (length lines + 1) text rest (f to) (f b) holds.0 holds.1.1 holds.1.2 sends)) h
output_failed telling f (stopped.Taker (Line n)) r s a b new is h = absurd (cc)
output_failed telling f (stopped.Taker Read) r s a b new is h = absurd (cc)
output_failed telling f (stopped.Taker OutOfMemory) r s a b new is h = absurd (cc)
output_failed telling f stopped.Read r s a b new is h = absurd (cc)
output_failed telling f stopped.OutOfMemory r s a b new is h = absurd (cc)

-- ---- whether a write failed

-- none did while lines were answered
unfailed : {S : Type 0} (telling : Telling) (f : S → Place) (a b : S) (n : ℕ) (lines : List Text) → Taken (Goes telling f) a n lines b → (f b).failed ≡ (f a).failed
unfailed telling f _ _ n _ (reading.nothing s k) = refl
unfailed telling f _ b n _ (reading.one_more s k first t more u own takes others) = unfailed telling f t b (k + 1) more others ∙ takes.unfailed
unfailed telling f _ b n lines (reading.more_input s k t more u takes others) = unfailed telling f t b k more others ∙ takes.3

-- nor while a whole script was
pub whole_unfailed : {S : Type 0} (telling : Telling) (f : S → Place) (r s : Known) (a b : S) → ReadsAll (Goes telling f) r s a b → (f b).failed ≡ (f a).failed
whole_unfailed telling f r s a b h =
    (last_answers telling s h.rest (length h.lines + 1) (f h.to) (f b) h.holds.1 h.holds.2).2.unfailed ∙ unfailed telling f a h.to 1 h.lines h.taken

-- nor where a fault but of the output has ended it
pub stopped_unfailed : {S : Type 0} (telling : Telling) (f : S → Place) (stop : Stopped ScriptFault) (r s : Known) (a b : S) → is_of_output (fault_of stop) ≡ false
    → StopsReading (Goes telling f) (Fails telling f) r s a b stop → (f b).failed ≡ (f a).failed
stopped_unfailed telling f stop r s a b other h =
    let before = stopped_before telling f stop r s a b other h in
    before.holds.0.2 ∙ unfailed telling f a before.to 1 before.lines before.taken

cut_failed : (telling : Telling) (found : Begins) (n : ℕ) (p q : Place) → Refuses telling p n found Write q → q.failed ≡ true
cut_failed telling (whole line) n p q h = h.4
cut_failed telling too_long n p q h = absurd (cc)
cut_failed telling unfinished n p q h = h.2

-- one did where a fault of the output has ended it
pub output_has_failed : {S : Type 0} (telling : Telling) (f : S → Place) (stop : Stopped ScriptFault) (r s : Known) (a b : S) → is_of_output (fault_of stop) ≡ true
    → StopsReading (Goes telling f) (Fails telling f) r s a b stop → (f b).failed ≡ true
output_has_failed telling f (stopped.Taker Write) r s a b is h = cut_failed telling h.holds.1.0 (length h.lines + 1) (f h.to) (f b) h.holds.1.2
output_has_failed telling f (stopped.Taker (Line n)) r s a b is h = absurd (cc)
output_has_failed telling f (stopped.Taker Read) r s a b is h = absurd (cc)
output_has_failed telling f (stopped.Taker OutOfMemory) r s a b is h = absurd (cc)
output_has_failed telling f stopped.Read r s a b is h = absurd (cc)
output_has_failed telling f stopped.OutOfMemory r s a b is h = absurd (cc)

-- a flush after writes of which none failed
pub with_flush_same : (old mid : WrittenSoFar) → mid.failed ≡ old.failed → with_flush mid ≡ with_flush old
with_flush_same old mid is = ap (λ f. with_flush (record { failed = f; flushed = true })) is

-- the writes, where what waits was written after a fault
pub writes_to : (fault : ScriptFault) (old mid new : WrittenSoFar) → is_of_output fault ≡ false → mid.failed ≡ old.failed → new ≡ with_flush mid → WritesTo old new fault
writes_to Write old mid new other is sent = absurd (cc)
writes_to _ old mid new other is sent = sent ∙ with_flush_same old mid is

-- and where one failed
pub writes_failed : (fault : ScriptFault) (old new : WrittenSoFar) → is_of_output fault ≡ true → new.failed ≡ true → WritesTo old new fault
writes_failed Write old new is failed = failed
writes_failed _ old new is failed = absurd (cc)

-- no line is refused with a failed read
never_read : (telling : Telling) (found : Begins) (n : ℕ) (p q : Place) → Refuses telling p n found Read q → ⊥
never_read telling (whole line) n p q h = h
never_read telling too_long n p q h = cc
never_read telling unfinished n p q h = cc

-- the reads, where the reading stopped
pub reads_to : {S : Type 0} (telling : Telling) (f : S → Place) (stop : Stopped ScriptFault) (r s : Known) (a b : S) (old new : ReadSoFar)
    → StopsReading (Goes telling f) (Fails telling f) r s a b stop → ReadsAs old new stop → ReadsTo old new (fault_of stop)
reads_to telling f stopped.Read r s a b old new h told = told
reads_to telling f (stopped.Taker (Line n)) r s a b old new h told = told
reads_to telling f (stopped.Taker Read) r s a b old new h told = absurd (never_read telling h.holds.1.0 (length h.lines + 1) (f h.to) (f b) h.holds.1.2)
reads_to telling f (stopped.Taker Write) r s a b old new h told = tt
reads_to telling f (stopped.Taker OutOfMemory) r s a b old new h told = told
reads_to telling f stopped.OutOfMemory r s a b old new h told = told
