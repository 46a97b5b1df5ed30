-- A name that is read off letter by letter.
use Rattle.std.proofs.Common.{◌≡◌, ℕ, List, length, ap, sym}
use Rattle.std.proofs.lemmas.Slice.Eq.{HasBytesAt, text_from_reads}

-- what a text names is what its letters name
pub named : {X : Type 0} (names : List ℕ → X) (name letters : List ℕ) → length name ≡ length letters → HasBytesAt name 0 letters → names letters ≡ names name
named names name letters long reads = ap names (sym (text_from_reads name letters long reads))
