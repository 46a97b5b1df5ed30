-- What is in the lines of a listing, by their places.
use Rattle.std.proofs.Common.{◌≡◌, ℕ, ◌-◌, ◌*◌, ◌<◌, List, [], ◌∷◌, ap, sym, ◌∙◌, refl, arith, length, take, drop, get_or, map, length-drop}
use Rattle.std.specs.Prelude.{slice_index_or}
use Rattle.std.specs.Borrow.{Bor}
use Rattle.std.proofs.lemmas.List.{drop-map, get_or-map, length-map, take-map, take_all, take_rest}
use Rattle.ahci_draw.specs.Lines.{texts}
use Rattle.ahci_draw.specs.Row.{row_of}

abbrev Line : Type 0
Line = Bor (List ℕ)

texts_from : (k : ℕ) (lines : List Line) → texts (drop k lines) ≡ drop k (texts lines)
texts_from k lines = sym (drop-map (λ (line : Line). line.now) k lines)

texts_to : (k : ℕ) (lines : List Line) → texts (take k lines) ≡ take k (texts lines)
texts_to k lines = sym (take-map (λ (line : Line). line.now) k lines)

pub texts_count : (lines : List Line) → length (texts lines) ≡ length lines
texts_count lines = length-map lines (λ (line : Line). line.now)

-- the lines of a row that is not whole, and of one that is
pub row_short : (lines : List Line) (row : ℕ) → length (take (length lines - 100 * row) (drop (100 * row) lines)) < 100
    → texts (take (length lines - 100 * row) (drop (100 * row) lines)) ≡ row_of (texts lines) row
row_short lines row short =
    ap texts (take_rest lines (100 * row)) ∙ texts_from (100 * row) lines
    ∙ sym
    (take_all 100 (drop (100 * row) (texts lines))
    (omega (arith, short, ap length (take_rest lines (100 * row)), length-drop (100 * row) lines, length-drop (100 * row) (texts lines), texts_count lines)))

pub row_whole : (lines : List Line) (row : ℕ) → texts (take 100 (take (length lines - 100 * row) (drop (100 * row) lines))) ≡ row_of (texts lines) row
row_whole lines row = ap (λ l. texts (take 100 l)) (take_rest lines (100 * row)) ∙ texts_to 100 (drop (100 * row) lines) ∙ ap (take 100) (texts_from (100 * row) lines)

-- the text of the line at a place
pub line_at : (lines : List Line) (place : ℕ) (other : Line) → place < length lines → slice_index_or (texts lines) place [] ≡ (get_or lines place other).now
line_at lines place other low = get_or-map (λ (l : Line). l.now) lines place other [] low

-- a byte of each text
pub mapped_twice : {X Y Z : Type 0} (g : Y → Z) (f : X → Y) (xs : List X) → map g (map f xs) ≡ map (λ x. g (f x)) xs
mapped_twice g f [] = refl
mapped_twice g f (x ∷ xs) = ap (λ l. g (f x) ∷ l) (mapped_twice g f xs)
