-- A port that is reset is as a new one, and what comes later follows what it did.
use Rattle.std.proofs.Common.{◌≡◌, ℕ, zero, suc, ◌+◌, ◌-◌, ◌<◌, ◌≤◌, List, [], ◌∷◌, ◌++◌, length, replicate, set, ap, sym, refl, ◌∙◌, Option, None, Some, arith}
use Rattle.std.specs.Option.{option_and_then, option_map}
use Rattle.std.proofs.lemmas.Option.{none-some}
use Rattle.ncq_journal.specs.Answer.{Answer, answer}
use Rattle.ncq_journal.specs.Entry.{Entry}
use Rattle.ncq_journal.specs.Image.{sector_at}
use Rattle.ncq_journal.specs.Numbering.{answer_numbered, place_of}
use Rattle.ncq_journal.specs.Sector.{sector}
use Rattle.ncq_journal.proofs.CutLemmas.{answer_following, answer_stays}
use Rattle.ncq_journal.proofs.NumberLemmas.{place_from}
use Rattle.ncq_journal.proofs.PartLemmas.{sector_following}
use Rattle.ahci_port.specs.PortView.{PortView, next_number, port_over}
use Rattle.ahci_port.specs.Steps.{Follows}

-- the slots once the first i are free
pub cleared_first : {X : Type 0} → ℕ → List (Option X) → List (Option X)
cleared_first zero xs = xs
cleared_first (suc i) [] = []
cleared_first (suc i) (x ∷ xs) = None ∷ cleared_first i xs

cleared_next : {X : Type 0} → (i : ℕ) (xs : List (Option X)) → i < length xs → set (cleared_first i xs) i None ≡ cleared_first (suc i) xs
unfolding cleared_first
cleared_next zero [] h = absurd (omega arith)
cleared_next zero (x ∷ xs) h = refl
cleared_next (suc i) [] h = absurd (omega arith)
cleared_next (suc i) (x ∷ xs) h = ap (λ ys. None ∷ ys) (cleared_next i xs (omega arith))

-- one slot more, as the loop writes it
pub cleared_more : {X : Type 0} → (i : ℕ) (old xs : List (Option X)) → xs ≡ cleared_first i old → i < length old → set xs i None ≡ cleared_first (i + 1) old
cleared_more i old xs is low = ap (λ ys. set ys i None) is ∙ cleared_next i old low ∙ ap (λ n. cleared_first n old) (omega arith)

-- none at first
pub cleared_none : {X : Type 0} → (xs : List (Option X)) → xs ≡ cleared_first 0 xs
unfolding cleared_first
cleared_none xs = refl

-- all at last
pub cleared_all : {X : Type 0} → (xs : List (Option X)) → cleared_first (length xs) xs ≡ replicate (length xs) None
unfolding cleared_first
cleared_all [] = refl
cleared_all (x ∷ xs) = ap (λ ys. None ∷ ys) (cleared_all xs)

-- a number counted on from a part's length is counted on from the end of that part
numbered_twice : (first k : ℕ) (o : Option Answer) → option_map (answer_numbered first) (option_map (answer_numbered k) o) ≡ option_map (answer_numbered (first + k)) o
numbered_twice first k None = refl
numbered_twice first k (Some a) = ap (λ n. Some (record { entry = n; outcome = a.outcome; bytes = a.bytes })) (omega arith)

-- the answer to a request of the later part
later_answer : (first : ℕ) (starting middle : List ℕ) (later past : List Entry) (number : ℕ) → first + length past ≤ number
    → ((place : ℕ) → answer starting (later ++ past) (length past + place) ≡ option_map (answer_numbered (length past)) (answer middle later place))
    → option_map (answer_numbered first) (option_and_then (answer starting (later ++ past)) (place_of first number))
    ≡ option_map (answer_numbered (first + length past)) (option_and_then (answer middle later) (place_of (first + length past) number))
later_answer first starting middle later past number from each =
    let k = length past in
    let place = number - (first + k) in
    ap (λ o. option_map (answer_numbered first) (option_and_then (answer starting (later ++ past)) o)) (place_from first number (k + place) (omega arith))
    ∙ ap (option_map (answer_numbered first)) (each place)
    ∙ numbered_twice first k (answer middle later place)
    ∙ sym (ap (λ o. option_map (answer_numbered (first + k)) (option_and_then (answer middle later) o)) (place_from (first + k) number place (omega arith)))

-- an answer that was given stays
earlier_answer : (first : ℕ) (starting : List ℕ) (later past : List Entry) (o : Option ℕ) (a : Answer)
    → option_map (answer_numbered first) (option_and_then (answer starting past) o) ≡ Some a → option_map (answer_numbered first) (option_and_then (answer starting (later ++ past)) o) ≡ Some a
earlier_answer first starting later past None a e = e
earlier_answer first starting later past (Some place) a e = by (answer starting past place) refl
  where
    by : (o : Option Answer) → answer starting past place ≡ o → option_map (answer_numbered first) (answer starting (later ++ past) place) ≡ Some a
    by None own = absurd (none-some a (sym (ap (option_map (answer_numbered first)) own) ∙ e))
    by (Some b) own = ap (option_map (answer_numbered first)) (answer_stays starting later past place b own) ∙ sym (ap (option_map (answer_numbered first)) own) ∙ e

-- what comes later follows what the port did, whose sectors are those of its journal
pub follows : (old : PortView) → ((s : ℕ) → sector_at old.image s ≡ sector old.starting old.past s) → Follows old (port_over old.grows (next_number old) old.image old.depth)
follows old cut = record {
  sectors = λ later h s. sym (sector_following _ _ old.starting old.image later old.past h cut s);
  answers = λ later h number from. later_answer old.first old.starting old.image later old.past number from (λ place. answer_following _ _ old.starting old.image later old.past place h cut);
  answered = λ later number a e. earlier_answer old.first old.starting later old.past (place_of old.first number) a e;
}
