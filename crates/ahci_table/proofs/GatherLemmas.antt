-- Copying a part of a text out of the runs of bytes that it is joined of.
use Rattle.std.proofs.Common.{◌≡◌, ℕ, ◌+◌, ◌-◌, ◌<◌, ◌≤◌, min, List, [], ◌++◌, length, take, drop, get_or, ap, sym, ◌∙◌, arith}
use Rattle.std.proofs.lemmas.List.{take_all, drop_all, append-nil, append_assoc, at_drop_more, length-take-le, length-drop, take-take, drop-take, drop-drop}
use Rattle.std.proofs.lemmas.Slice.{take-put_mid}
use borrow.Rule.Slice.PartMut.{put_mid}
use Rattle.ahci_table.specs.declared.piece.Piece.{Piece}
use Rattle.ahci_table.specs.Piece.{end_of}
use Rattle.ahci_table.specs.Text.{joined, bytes_of}
use Rattle.ahci_table.proofs.PartLemmas.{part-append, length-put}
use Rattle.ahci_table.proofs.RunLemmas.{length-bytes_of}

-- what is copied so far, and what the pieces from the i-th on have for the rest, is the part that is asked for
pub record Gathers (pieces : List Piece) (bytes : List ℕ) (offset : ℕ) (i skip done : ℕ) (out : List ℕ) : Type 0 where
  pub within : done ≤ length out
  pub part : take done out ++ take (length out - done) (drop skip (joined (drop i pieces) bytes)) ≡ take (length out) (drop offset (joined pieces bytes))

-- a part of a piece is a part of the bytes
part_of_piece : (p : Piece) (lead count : ℕ) (bytes : List ℕ) → lead + count ≤ p.len → take count (drop lead (bytes_of p bytes)) ≡ take count (drop (p.at + lead) bytes)
part_of_piece p lead count bytes h =
    ap (λ n. take count (drop lead (take n (drop p.at bytes)))) (let e : p.len ≡ lead + (p.len - lead) = omega arith in e)
    ∙ ap (take count) (drop-take lead (p.len - lead) (drop p.at bytes))
    ∙ take-take count (p.len - lead) (drop lead (drop p.at bytes)) (omega arith)
    ∙ ap (take count) (drop-drop lead p.at bytes)

-- one piece more
pub gathers_more : (pieces : List Piece) (bytes : List ℕ) (offset i skip done lead count : ℕ) (out run : List ℕ) (p d : Piece)
    → Gathers pieces bytes offset i skip done out → i < length pieces → p ≡ get_or pieces i d → end_of p ≤ length bytes
    → lead ≡ min skip p.len → count ≡ min (p.len - lead) (length out - done) → run ≡ take (p.at + lead + count - (p.at + lead)) (drop (p.at + lead) bytes)
    → Gathers pieces bytes offset (i + 1) (skip - lead) (done + count) (put_mid done (done + count - done) out run)
gathers_more pieces bytes offset i skip done lead count out run p d inv below is inside l c r =
    let within = inv.within in
    let own : length (bytes_of p bytes) ≡ p.len = length-bytes_of p bytes inside in
    let copied : run ≡ take count (drop (p.at + lead) bytes) = r ∙ ap (λ n. take n (drop (p.at + lead) bytes)) (let e : p.at + lead + count - (p.at + lead) ≡ count = omega arith in e) in
    let rest_len : length (drop (p.at + lead) bytes) ≡ length bytes - (p.at + lead) = length-drop (p.at + lead) bytes in
    let run_len : length run ≡ count = ap length copied ∙ length-take-le count (drop (p.at + lead) bytes) (omega arith) in
    let next = put_mid done (done + count - done) out run in
    let same_len : length next ≡ length out = length-put done (done + count - done) out run (omega arith) (omega arith) in
    let more : joined (drop i pieces) bytes ≡ bytes_of p bytes ++ joined (drop (i + 1) pieces) bytes =
    at_drop_more (λ ps. joined ps bytes) pieces i d below ∙ ap (λ q. bytes_of q bytes ++ joined (drop (i + 1) pieces) bytes) (sym is) in
    let rest = drop (skip - lead) (joined (drop (i + 1) pieces) bytes) in
    let split : take (length out - done) (drop skip (joined (drop i pieces) bytes)) ≡ run ++ take (length out - (done + count)) rest =
    ap (λ z. take (length out - done) (drop skip z)) more
    ∙ part-append (length out - done) skip lead count (bytes_of p bytes) (joined (drop (i + 1) pieces) bytes) (l ∙ ap (min skip) (sym own)) (c ∙ ap (λ n. min (n - lead) (length out - done)) (sym own))
    ∙ ap (λ z. z ++ take (length out - done - count) rest) (part_of_piece p lead count bytes (omega arith) ∙ sym copied)
    ∙ ap (λ n. run ++ take n rest) (let e : length out - done - count ≡ length out - (done + count) = omega arith in e) in
    record {
      within = omega arith;
      part =
          ap (λ z. z ++ take (length next - (done + count)) rest) (take-put_mid done (done + count - done) out run (done + count) (omega arith) within)
          ∙ ap (λ n. take done out ++ run ++ take (n - (done + count)) rest) same_len
          ∙ append_assoc (take done out) run (take (length out - (done + count)) rest)
          ∙ ap (λ z. take done out ++ z) (sym split)
          ∙ inv.part
          ∙ ap (λ n. take n (drop offset (joined pieces bytes))) (sym same_len);
    }

nothing : (m n : ℕ) → take {A = ℕ} m (drop {A = ℕ} n []) ≡ []
nothing m n = ap (take m) (drop_all n [] (omega arith)) ∙ take_all m [] (omega arith)

-- after the last piece all is copied
pub gathers_all : (pieces : List Piece) (bytes : List ℕ) (offset i skip done : ℕ) (out : List ℕ)
    → Gathers pieces bytes offset i skip done out → length pieces ≤ i → offset + length out ≤ length (joined pieces bytes) → out ≡ take (length out) (drop offset (joined pieces bytes))
gathers_all pieces bytes offset i skip done out inv end enough =
    let within = inv.within in
    let none : take (length out - done) (drop skip (joined (drop i pieces) bytes)) ≡ [] =
    ap (λ ps. take (length out - done) (drop skip (joined ps bytes))) (drop_all i pieces end) ∙ nothing (length out - done) skip in
    let front : take done out ≡ take (length out) (drop offset (joined pieces bytes)) = sym (append-nil (take done out)) ∙ ap (λ z. take done out ++ z) (sym none) ∙ inv.part in
    let rest_len : length (drop offset (joined pieces bytes)) ≡ length (joined pieces bytes) - offset = length-drop offset (joined pieces bytes) in
    let full : length (take (length out) (drop offset (joined pieces bytes))) ≡ length out = length-take-le (length out) (drop offset (joined pieces bytes)) (omega arith) in
    let got : length (take done out) ≡ done = length-take-le done out within in
    let all : done ≡ length out = sym got ∙ ap length front ∙ full in
    sym (take_all done out (omega arith)) ∙ front
