-- Answers, entry by entry.
use Rattle.std.proofs.Common.{◌≡◌, ℕ, ◌+◌, ◌<◌, List, [], ◌∷◌, ◌++◌, length, take, ap, sym, refl, ◌∙◌, Some, arith, append_assoc, append-nil, ◌-◌, suc, drop, get_or, subst}
use Rattle.std.specs.List.{flat_map, range_with_len}
use Rattle.ncq_journal.specs.declared.event.Event.{Event}
use Rattle.ncq_journal.specs.Answer.{sectors_at}
use Rattle.ncq_journal.specs.Entry.{Entry}
use Rattle.ncq_journal.specs.History.{history_of, entry_at}
use Rattle.ncq_journal.specs.Sector.{sector}
use Rattle.ncq_journal.proofs.TagLemmas.{range_more}
use Rattle.ncq_journal.proofs.LawfulLemmas.{history-append}
use Rattle.ncq_journal.specs.Lawful.{AllProper, IsProperEntry}
use Rattle.std.proofs.lemmas.List.{take-append-drop, length-reverse, get_or-reverse}
use Rattle.std.proofs.lemmas.Option.{slice_get_within, get_or_from_slice_get}
use mathlib.Core.List.{reverse}

-- no sectors
pub sectors_none : (image : List ℕ) (past : List Entry) (lba : ℕ) → sectors_at image past lba 0 ≡ []
sectors_none image past lba = refl

flat_map-append : {X A : Type 0} (f : X → List A) (xs ys : List X) → flat_map f (xs ++ ys) ≡ flat_map f xs ++ flat_map f ys
flat_map-append f [] ys = refl
flat_map-append f (x ∷ xs) ys = ap (λ t. f x ++ t) (flat_map-append f xs ys) ∙ sym (append_assoc (f x) (flat_map f xs) (flat_map f ys))

-- one sector more
pub sectors_more : (image : List ℕ) (past : List Entry) (lba n : ℕ) → sectors_at image past lba (n + 1) ≡ sectors_at image past lba n ++ sector image past (lba + n)
sectors_more image past lba n =
    ap (flat_map (sector image past)) (range_more lba n) ∙ flat_map-append (sector image past) (range_with_len lba n) ((lba + n) ∷ [])
    ∙ ap (λ t. sectors_at image past lba n ++ t) (append-nil (sector image past (lba + n)))

All-after : (later past : List Entry) → AllProper (later ++ past) → AllProper past
All-after [] past h = h
All-after (entry ∷ later) past h =
    All-after later past (λ k d below. h (suc k) d (let b : k < length (later ++ past) = below in omega arith))

-- the first events of a journal whose commands are proper
pub proper_first : {A : _} (events : List (Event A)) (n : ℕ) → AllProper (history_of events) → AllProper (history_of (take n events))
proper_first events n h =
    let whole = sym (ap history_of (take-append-drop n events)) ∙ history-append (take n events) (drop n events) in
    All-after (history_of (drop n events)) (history_of (take n events)) (subst AllProper whole h)

-- an entry of such a journal issues a command that can be issued
pub proper_entry : (past : List Entry) (k : ℕ) (entry : Entry) → AllProper past → entry_at past k ≡ Some entry → IsProperEntry entry
proper_entry past k entry h at =
    let within : k < length (reverse past) = slice_get_within (reverse past) k entry at in
    let len : length (reverse past) ≡ length past = length-reverse past in
    let same : get_or past (length past - 1 - k) entry ≡ entry = sym (get_or-reverse past k entry (omega arith)) ∙ get_or_from_slice_get (reverse past) k entry entry at in
    subst IsProperEntry same (h (length past - 1 - k) entry (omega arith))
