-- What the moves of a command's data leave of its window.
use Rattle.std.proofs.Common.{◌≡◌, ℕ, true, suc, ◌+◌, ◌≤◌, List, [], ◌∷◌, ◌++◌, length, drop, ap, sym, refl, ◌∙◌, subst, All, arith, inl}
use Rattle.std.specs.List.{replace_range}
use Rattle.std.proofs.lemmas.List.{append-nil, drop_all, length-append, length-take-le, length-drop}
use Rattle.ahci_table.specs.declared.piece.Piece.{Piece}
use Rattle.ahci_table.specs.Command.{cfis, queued_of}
use Rattle.ahci_table.specs.Fit.{IsFit}
use Rattle.ahci_table.specs.Piece.{end_of, total}
use Rattle.ahci_table.specs.Prdt.{pieces}
use Rattle.ahci_table.specs.Scatter.{IsScattered}
use Rattle.ahci_table.specs.Text.{text, joined, bytes_of, replaced}
use Rattle.ahci_table.specs.Window.{WindowState}
use Rattle.ahci_table.proofs.LawLemmas.{commutes}
use Rattle.ahci_table.proofs.WindowLemmas.{pieces_inside}
use Rattle.ncq_core.specs.Serving.{HasMoved, MovesFor, IsWritten}
use Rattle.sata_fis.specs.Fields.{QueuedFields}
use Rattle.ahci_port.specs.Memory.{IsKept, MemoryState}
use Rattle.ahci_port.proofs.WorkLemmas.{IsSized}

-- the window once its command's data have moved: only a read changes it, and in its text alone
pub record MovedWindow (old new : WindowState) : Type 0 where
  pub fit : IsFit new
  pub tag_same : new.tag ≡ old.tag
  pub header_same : new.header ≡ old.header
  pub cfis_same : cfis new ≡ cfis old
  pub write_same : (queued_of old).write ≡ true → new ≡ old

pub scattered_kept : (old new : WindowState) (offset : ℕ) (from : List ℕ) → IsScattered old offset from new → IsKept old new
scattered_kept old new offset from h = record { tag_is = h.tag_is; header_is = h.header_is; len_is = h.len_is; pieces_are = h.pieces_are; cfis_is = h.cfis_is; others = h.others }

-- a replaced range of a text
pub replaced_range : (offset : ℕ) (from xs : List ℕ) → replaced offset from xs ≡ replace_range xs offset (offset + length from) from
replaced_range offset from xs = refl

joined_len : (ps : List Piece) (bytes : List ℕ) → All (λ p. end_of p ≤ length bytes) ps → length (joined ps bytes) ≡ total ps
joined_len [] bytes inside = refl
joined_len (p ∷ ps) bytes inside =
    length-append (bytes_of p bytes) (joined ps bytes)
    ∙ ap (λ n. n + length (joined ps bytes)) (length-take-le p.len (drop p.at bytes) (let d = length-drop p.at bytes in let h : end_of p ≤ length bytes = inside 0 p (omega arith) in omega arith))
    ∙ ap (λ n. p.len + n) (joined_len ps bytes (λ k d h. inside (suc k) d (omega arith)))

-- a fact of the room after what has moved, where the memory is the same
pub room_here : (inside seen : MemoryState) (more : ℕ) → inside ≡ seen → seen.offset + more ≤ length (text seen.window) → inside.offset + more ≤ length (text inside.window)
room_here inside seen more is room = subst (λ m. m.offset + more ≤ length (text m.window)) (sym is) room

-- the text of a fit window has the bytes of its command's sectors
pub fit_sized : (w : WindowState) → IsFit w → IsSized w
fit_sized w fit = joined_len (pieces w) w.bytes (pieces_inside w fit.listed.entries) ∙ fit.listed.whole

-- a window of which neither the text nor anything else has changed is the same
pub kept_same : (old new : WindowState) → IsFit old → IsKept old new → text new ≡ text old → new ≡ old
kept_same old new fit h same = commutes old old old new old 0 0 [] [] fit (omega arith) (omega arith) (inl (omega arith)) (nothing old) (moved) (nothing old) (nothing old)
  where
    nothing : (w : WindowState) → IsScattered w 0 [] w
    nothing w = record { text_is = refl; tag_is = refl; header_is = refl; len_is = refl; pieces_are = refl; cfis_is = refl; others = λ x e. refl }

    moved : IsScattered old 0 [] new
    moved = record { text_is = same; tag_is = h.tag_is; header_is = h.header_is; len_is = h.len_is; pieces_are = h.pieces_are; cfis_is = h.cfis_is; others = h.others }

-- a whole text that was put into a window
pub kept_scattered : (old new : WindowState) (bytes : List ℕ) → IsKept old new → text new ≡ bytes → length bytes ≡ length (text old) → IsScattered old 0 bytes new
kept_scattered old new bytes h is len =
    let whole : text new ≡ replaced 0 bytes (text old) =
    is ∙ sym (append-nil bytes) ∙ ap (λ x. bytes ++ x) (sym (drop_all (0 + length bytes) (text old) (omega arith))) in
    record { text_is = whole; tag_is = h.tag_is; header_is = h.header_is; len_is = h.len_is; pieces_are = h.pieces_are; cfis_is = h.cfis_is; others = h.others }

-- what serving leaves of a window
pub moved_window : (q : QueuedFields) (old new : WindowState) (image image' : List ℕ) → q ≡ queued_of old → IsFit old
    → IsFit new → IsKept old new → HasMoved q image image' (text old) (text new) → MovedWindow old new
moved_window q old new image image' is fit fit' h moved = record {
  fit = fit';
  tag_same = h.tag_is;
  header_same = h.header_is;
  cfis_same = h.cfis_is;
  write_same = λ e. let w : IsWritten q image image' (text old) (text new) =
      subst (λ b. MovesFor b q image image' (text old) (text new)) (ap (λ x. x.write) is ∙ e) moved in kept_same old new fit h w.text_same;
}
