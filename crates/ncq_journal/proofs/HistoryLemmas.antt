-- A journal's entries, one event after another.
use Rattle.std.proofs.Common.{◌≡◌, ℕ, ◌+◌, ◌<◌, ◌≤◌, List, [], ◌∷◌, ◌++◌, length, get_or, take, map, ap, sym, refl, ◌∙◌, Option, Some, None, Bor}
use Rattle.std.proofs.lemmas.List.{map-append, reverse-append, reverse-reverse, take_more, take_all, length-reverse, length-map}
use Rattle.std.proofs.lemmas.Option.{slice_get-map, slice_get_past, slice_get_read}
use Rattle.std.specs.List.{slice_get}
use Rattle.std.specs.Option.{option_map, option_copied}
use Rattle.std.specs.Slice.{IsGetResult}
use mathlib.Core.List.{reverse}
use Rattle.ncq_journal.specs.declared.event.Event.{Event}
use Rattle.ncq_journal.specs.Entry.{entry_of}
use Rattle.ncq_journal.specs.History.{history_of, entry_at}

-- an event more is an entry more
pub history-push : {A : _} (events : List (Event A)) (event : Event A) → history_of (events ++ event ∷ []) ≡ entry_of event ∷ history_of events
history-push events event = ap reverse (map-append entry_of events (event ∷ [])) ∙ reverse-append (map entry_of events) (entry_of event ∷ [])

-- the step of a scan
pub history_more : {A : _} (events : List (Event A)) (i : ℕ) (event : Event A) → i < length events → event ≡ get_or events i event
    → history_of (take (i + 1) events) ≡ entry_of event ∷ history_of (take i events)
history_more events i event h e =
    ap history_of (take_more events i event h) ∙ history-push (take i events) (get_or events i event) ∙ ap (λ x. entry_of x ∷ history_of (take i events)) (sym e)

-- the end of a scan
pub history_all : {A : _} (events : List (Event A)) (n : ℕ) → length events ≤ n → history_of (take n events) ≡ history_of events
history_all events n h = ap history_of (take_all n events h)

-- an event's place in the code is its entry's number
pub entry_at-history : {A : _} (events : List (Event A)) (k : ℕ) → entry_at (history_of events) k ≡ option_map entry_of (slice_get events k)
entry_at-history events k = ap (λ xs. slice_get xs k) (reverse-reverse (map entry_of events)) ∙ slice_get-map entry_of events k

-- what a look-up by index gives
pub copied_get : {X : Type 0} (xs : List X) (i : ℕ) (r : Option (Bor X)) → IsGetResult xs i i r → option_copied r ≡ slice_get xs i
copied_get xs i None h = sym (slice_get_past xs i h.3)
copied_get xs i (Some x) h = sym (slice_get_read xs (length xs) i x.now refl h.3.0 h.1)

-- as many entries as events
pub length_history : {A : _} (events : List (Event A)) → length (history_of events) ≡ length events
length_history events = length-reverse (map entry_of events) ∙ length-map events entry_of
