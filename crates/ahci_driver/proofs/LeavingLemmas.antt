-- A port that workers leave, by its events and its slots.
use Rattle.std.proofs.Common.{◌≡◌, ℕ, ◌<◌, Bool, true, false, ◌&&◌, List, [], ◌∷◌, reverse, map, refl, ap, sym, ◌∙◌, inl, inr, arith}
use Rattle.std.specs.List.{list_all}
use Rattle.std.specs.Prelude.{◌↔◌, IsTrue}
use Rattle.std.proofs.lemmas.Bool.{cases_lt, false≢true}
use Rattle.std.proofs.lemmas.List.{reverse-append}
use Rattle.std.proofs.lemmas.List.Folds.{list_all-append, list_all-map}
use Rattle.ncq_journal.specs.declared.event.Event.{Event}
use Rattle.ncq_journal.specs.declared.phase.Phase.TheVariants.{Free}
use Rattle.ncq_journal.specs.Entry.{Entry, entry_of}
use Rattle.ncq_journal.specs.History.{history_of}
use Rattle.ncq_journal.specs.Laws.{AllFree}
use Rattle.ncq_journal.specs.Phase.{phase}
use Rattle.ncq_journal.proofs.PhaseLemmas.{free_past_depth}
use Rattle.ahci_port.specs.PortView.{PortView, sectors_in}
use Rattle.ahci_port.specs.Headline.{Headline}
use Rattle.ahci_port.specs.Looking.{HasShape}
use Rattle.ahci_driver.specs.Leaving.{IsLeft, is_queued}

and_turned : (a b : Bool) → (a && b) ≡ (b && a)
and_turned true true = refl
and_turned true false = refl
and_turned false true = refl
and_turned false false = refl

and_true : (a : Bool) → (a && true) ≡ a
and_true true = refl
and_true false = refl

-- the order is no matter to what holds of all
pub list_all-reverse : {X : Type 0} (p : X → Bool) (xs : List X) → list_all p (reverse xs) ≡ list_all p xs
list_all-reverse p [] = refl
list_all-reverse p (x ∷ xs) =
    ap (list_all p) (reverse-append (x ∷ []) xs) ∙ list_all-append p (reverse xs) (x ∷ []) ∙ and_turned (list_all p (reverse xs)) (p x && true)
    ∙ ap (λ b. b && list_all p (reverse xs)) (and_true (p x)) ∙ ap (λ b. p x && b) (list_all-reverse p xs)

-- what holds of all events holds of all entries
pub all_of_history : {A : _} (p : Entry → Bool) (events : List (Event A)) (past : List Entry) → history_of events ≡ past
    → list_all (λ event. p (entry_of event)) events ≡ list_all p past
all_of_history p events past e =
    sym (list_all-map p entry_of events) ∙ sym (list_all-reverse p (map entry_of events)) ∙ ap (list_all p) e

-- whether the port is as workers leave it, where all events are theirs
pub left_if_free : {A : _} (port : PortView) (events : List (Event A)) (all free : Bool) → history_of events ≡ port.past
    → all ≡ list_all (λ event. is_queued (entry_of event)) events → all ≡ true → IsTrue free ↔ AllFree port.past → IsTrue free ↔ IsLeft port
left_if_free port events all free e said is both = (
  λ held. record { queued = sym (all_of_history is_queued events port.past e) ∙ sym said ∙ is; free = both.0 held },
  λ left. both.1 left.free,
)

-- and where some event isn't
pub not_left : {A : _} (port : PortView) (events : List (Event A)) (all : Bool) → history_of events ≡ port.past
    → all ≡ list_all (λ event. is_queued (entry_of event)) events → all ≡ false → IsTrue all ↔ IsLeft port
not_left port events all e said is = (
  λ held. absurd (false≢true (sym is ∙ held)),
  λ left. said ∙ all_of_history is_queued events port.past e ∙ left.queued,
)

-- a tag past the slots is free
pub all_free : (port : PortView) → Headline port → HasShape port → ((tag : ℕ) → tag < 32 → phase port.past tag ≡ Free) → AllFree port.past
all_free port headline shape each tag =
    elim (cases_lt tag 32) [
      | inl low ↦ each tag low
      | inr high ↦ free_past_depth (sectors_in port) port.depth port.past tag headline.lawful (let m = shape.most in omega arith)
    ]
