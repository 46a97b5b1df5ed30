-- The pieces of a PRDT, one entry after the other.
use Rattle.std.proofs.Common.{◌≡◌, ℕ, ◌+◌, ◌<◌, List, [], ◌∷◌, ◌++◌, length, ap, sym, ◌∙◌, arith, below_more}
use Rattle.std.proofs.lemmas.List.FromFn.{map-range_with_len_more}
use Rattle.ahci_table.specs.declared.piece.Piece.{Piece}
use Rattle.ahci_table.specs.Fit.{IsEntry}
use Rattle.ahci_table.specs.Prdt.{piece_of, entry_of, first_pieces, table_end}
use Rattle.ahci_table.specs.Window.{WindowState, base}

-- one piece more
pub listed_more : (w : WindowState) (i : ℕ) (items next : List Piece) (p : Piece)
    → items ≡ first_pieces i w → ((k : ℕ) → k < i → IsEntry (base w.tag) (table_end w) (length w.bytes) (entry_of w k))
    → next ≡ items ++ p ∷ [] → p ≡ piece_of (base w.tag) (entry_of w i) → IsEntry (base w.tag) (table_end w) (length w.bytes) (entry_of w i)
    → (next ≡ first_pieces (i + 1) w) × ((k : ℕ) → k < i + 1 → IsEntry (base w.tag) (table_end w) (length w.bytes) (entry_of w k))
listed_more w i items next p so_far each added value here =
    let f = λ (k : ℕ). piece_of (base w.tag) (entry_of w k) in (
      added ∙ ap (λ z. z ++ p ∷ []) so_far ∙ ap (λ q. first_pieces i w ++ q ∷ []) value ∙ sym (map-range_with_len_more f 0 i i (omega arith)),
      below_more (λ k. IsEntry (base w.tag) (table_end w) (length w.bytes) (entry_of w k)) i each here,
    )
