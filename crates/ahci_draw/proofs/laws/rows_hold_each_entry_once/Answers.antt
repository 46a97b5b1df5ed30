-- Rows are fronts of what is left.
use Rattle.std.proofs.Common.{◌≡◌, ◌∙◌, ℕ, ◌+◌, ◌*◌, ◌≤◌, zero, suc, List, [], ◌∷◌, ◌++◌, ap, append-nil, arith, length, refl, sym, take, zero-add}
use Rattle.std.specs.List.{flat_map, range_with_len}
use Rattle.std.proofs.lemmas.Grind.{flat_map-append}
use Rattle.std.proofs.lemmas.List.{take_all}
use Rattle.std.proofs.Math.Seq.{take-add}
use Rattle.ncq_journal.proofs.TagLemmas.{range_more}
use Rattle.ahci_draw.specs.Row.{row_of, rows_in}
use Rattle.ahci_draw.proofs.laws.rows_hold_each_entry_once.Goals as goal

one_more : (lines : List (List ℕ)) (n : ℕ)
    → flat_map (row_of lines) (range_with_len 0 (n + 1)) ≡ flat_map (row_of lines) (range_with_len 0 n) ++ row_of lines n
one_more lines n =
    ap (flat_map (row_of lines)) (range_more 0 n ∙ ap (λ k. range_with_len 0 n ++ k ∷ []) (zero-add n))
    ∙ flat_map-append (row_of lines) (range_with_len 0 n) (n ∷ []) ∙ ap (λ t. flat_map (row_of lines) (range_with_len 0 n) ++ t) (append-nil (row_of lines n))

hold : (lines : List (List ℕ)) (n : ℕ) → flat_map (row_of lines) (range_with_len 0 n) ≡ take (100 * n) lines
hold lines zero = refl
hold lines (suc n) =
    let next : suc n ≡ n + 1 = omega arith in
    let size : 100 * n + 100 ≡ 100 * suc n = omega arith in
    ap (λ k. flat_map (row_of lines) (range_with_len 0 k)) next ∙ one_more lines n ∙ ap (λ t. t ++ row_of lines n) (hold lines n)
    ∙ sym (take-add (100 * n) 100 lines) ∙ ap (λ k. take k lines) size

pub returns : goal.returns
returns c lines =
    let all : length lines ≤ 100 * rows_in (length lines) = omega arith in
    hold lines (rows_in (length lines)) ∙ take_all (100 * rows_in (length lines)) lines all
