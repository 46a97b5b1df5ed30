-- The parts of a lawful journal.
use Rattle.std.proofs.Common.{◌≡◌, ℕ, ◌+◌, ◌<◌, List, [], ◌∷◌, ◌++◌, length, take, drop, map, get_or, ap, sym, subst, ◌∙◌, zero, suc, All, arith}
use mathlib.Core.List.{reverse}
use Rattle.std.proofs.lemmas.List.{map-append, reverse-append, take-append-drop}
use Rattle.ncq_journal.specs.declared.event.Event.{Event}
use Rattle.ncq_journal.specs.Entry.{Entry, entry_of, Issue}
use Rattle.ncq_journal.specs.History.{history_of}
use Rattle.ncq_journal.specs.Lawful.{IsLawful, IsAllowed, IsProperEntry, AllProper}
use Rattle.ncq_journal.proofs.HistoryLemmas.{history_more}

-- the beginning of a lawful journal is lawful
pub lawful_tail : (s d : ℕ) (later past : List Entry) → IsLawful s d (later ++ past) → IsLawful s d past
lawful_tail s d [] past h = h
lawful_tail s d (entry ∷ later) past h = lawful_tail s d later past h.0

pub history-append : {A : _} (xs ys : List (Event A)) → history_of (xs ++ ys) ≡ history_of ys ++ history_of xs
history-append xs ys = ap reverse (map-append entry_of xs ys) ∙ reverse-append (map entry_of xs) (map entry_of ys)

-- the same of the first events
pub lawful_first : {A : _} (s d : ℕ) (events : List (Event A)) (n : ℕ) → IsLawful s d (history_of events) → IsLawful s d (history_of (take n events))
lawful_first s d events n h =
    let whole = sym (ap history_of (take-append-drop n events)) ∙ history-append (take n events) (drop n events) in
    lawful_tail s d (history_of (drop n events)) (history_of (take n events)) (subst (IsLawful s d) whole h)

-- each event was allowed by those before it
pub allowed_at : {A : _} (s d : ℕ) (events : List (Event A)) (n : ℕ) (event : Event A) → n < length events → event ≡ get_or events n event
    → IsLawful s d (history_of events) → IsAllowed s d (history_of (take n events)) (entry_of event)
allowed_at s d events n event h e lawful =
    (subst (IsLawful s d) (history_more events n event h e) (lawful_first s d events (n + 1) lawful)).1

all_cons : (P : Entry → Type 0) (x : Entry) (xs : List Entry) → P x → All P xs → All P (x ∷ xs)
all_cons P x xs first rest zero d below = first
all_cons P x xs first rest (suc k) d below = rest k d (let b : suc k < suc (length xs) = below in omega arith)

-- an entry that may come next issues a command that can be issued
proper_next : (s d : ℕ) (past : List Entry) (entry : Entry) → IsAllowed s d past entry → IsProperEntry entry
proper_next s d past (Issue t work) h = h.3
proper_next s d past _ h = tt

-- a lawful journal issues only commands that can be issued
pub lawful_proper : (s d : ℕ) (past : List Entry) → IsLawful s d past → AllProper past
lawful_proper s d [] h = λ k e below. absurd (let b : k < 0 = below in omega arith)
lawful_proper s d (entry ∷ past) h = all_cons IsProperEntry entry past (proper_next s d past entry h.1) (lawful_proper s d past h.0)
