-- A list of slots whose first ones have been turned into others.
use Rattle.std.proofs.Common.{◌≡◌, ℕ, zero, suc, ◌+◌, ◌<◌, List, [], ◌∷◌, length, map, set, get_or, ap, refl, ◌∙◌, Option, None, arith}
use Rattle.std.specs.Option.{option_map}
use Rattle.ahci_port.specs.Moves.{recovered_slot}
use Rattle.ahci_port.specs.Slots.{SlotState}

-- the first i slots after a recovery
pub recovered_first : ℕ → List (Option SlotState) → List (Option SlotState)
recovered_first zero xs = xs
recovered_first (suc i) [] = []
recovered_first (suc i) (x ∷ xs) = option_map recovered_slot x ∷ recovered_first i xs

pub recovered_next : (i : ℕ) (xs : List (Option SlotState)) → i < length xs
    → set (recovered_first i xs) i (option_map recovered_slot (get_or (recovered_first i xs) i None)) ≡ recovered_first (suc i) xs
unfolding recovered_first
recovered_next zero [] h = absurd (omega arith)
recovered_next zero (x ∷ xs) h = refl
recovered_next (suc i) [] h = absurd (omega arith)
recovered_next (suc i) (x ∷ xs) h = ap (λ ys. option_map recovered_slot x ∷ ys) (recovered_next i xs (omega arith))

pub recovered_all : (xs : List (Option SlotState)) → recovered_first (length xs) xs ≡ map (option_map recovered_slot) xs
unfolding recovered_first
recovered_all [] = refl
recovered_all (x ∷ xs) = ap (λ ys. option_map recovered_slot x ∷ ys) (recovered_all xs)

pub length-recovered : (i : ℕ) (xs : List (Option SlotState)) → length (recovered_first i xs) ≡ length xs
unfolding recovered_first
length-recovered zero xs = refl
length-recovered (suc i) [] = refl
length-recovered (suc i) (x ∷ xs) = ap suc (length-recovered i xs)

-- one slot more, as the loop writes it
pub recovered_more : (i : ℕ) (old xs : List (Option SlotState)) (d : Option SlotState) → xs ≡ recovered_first i old
    → i < length old → set xs i (option_map recovered_slot (get_or xs i d)) ≡ recovered_first (i + 1) old
recovered_more i old xs d is low =
    ap (λ s. set xs i (option_map recovered_slot s)) (same_default xs i d None (let l = ap length is ∙ length-recovered i old in omega arith))
    ∙ ap (λ ys. set ys i (option_map recovered_slot (get_or ys i None))) is ∙ recovered_next i old low ∙ ap (λ n. recovered_first n old) (omega arith)
  where
    same_default : (ys : List (Option SlotState)) (n : ℕ) (d e : Option SlotState) → n < length ys → get_or ys n d ≡ get_or ys n e
    same_default [] n d e h = absurd (omega arith)
    same_default (y ∷ ys) zero d e h = refl
    same_default (y ∷ ys) (suc n) d e h = same_default ys n d e (omega arith)

-- none at first
pub recovered_none : (xs : List (Option SlotState)) → xs ≡ recovered_first 0 xs
unfolding recovered_first
recovered_none xs = refl
