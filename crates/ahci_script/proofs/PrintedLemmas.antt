-- A text that grows by one number more, or by the digits of one byte more.
use Rattle.std.proofs.Common.{◌≡◌, ℕ, ◌+◌, ◌<◌, List, [], ◌∷◌, ◌++◌, length, take, get_or, ap, sym, ◌∙◌, append_assoc, append-nil}
use Rattle.std.proofs.lemmas.List.{take_more}
use Rattle.std.specs.Fmt.{decimal}
use Rattle.streams.specs.Text.{hex_of}
use Rattle.ahci_script.specs.Answers.{numbers_text}
use Rattle.ahci_script.specs.Printing.{hex_bytes}
use Rattle.ahci_script.proofs.EntriesLemmas.{numbers-more}

-- a text of more elements, where a piece for one more is appended
grown_by : (old text new piece before after : List ℕ) → text ≡ old ++ before → new ≡ text ++ piece → after ≡ before ++ piece → new ≡ old ++ after
grown_by old text new piece before after so_far grown whole =
    grown ∙ ap (λ t. t ++ piece) so_far ∙ append_assoc old before piece ∙ ap (λ t. old ++ t) (sym whole)

pub numbers_grown : (old text new numbers : List ℕ) (i d : ℕ) → i < length numbers → text ≡ old ++ numbers_text (take i numbers)
    → new ≡ text ++ (32 ∷ decimal (get_or numbers i d)) → new ≡ old ++ numbers_text (take (i + 1) numbers)
numbers_grown old text new numbers i d low so_far grown =
    grown_by old text new (32 ∷ decimal (get_or numbers i d)) (numbers_text (take i numbers)) (numbers_text (take (i + 1) numbers)) so_far grown
    (ap numbers_text (take_more numbers i d low) ∙ numbers-more (take i numbers) (get_or numbers i d))

hex-more : (bytes : List ℕ) (b : ℕ) → hex_bytes (bytes ++ b ∷ []) ≡ hex_bytes bytes ++ hex_of 2 b
hex-more [] b = append-nil (hex_of 2 b)
hex-more (x ∷ bytes) b = ap (λ t. hex_of 2 x ++ t) (hex-more bytes b) ∙ sym (append_assoc (hex_of 2 x) (hex_bytes bytes) (hex_of 2 b))

pub hex_grown : (old text new bytes : List ℕ) (i d : ℕ) → i < length bytes → text ≡ old ++ hex_bytes (take i bytes)
    → new ≡ text ++ hex_of 2 (get_or bytes i d) → new ≡ old ++ hex_bytes (take (i + 1) bytes)
hex_grown old text new bytes i d low so_far grown =
    grown_by old text new (hex_of 2 (get_or bytes i d)) (hex_bytes (take i bytes)) (hex_bytes (take (i + 1) bytes)) so_far grown
    (ap hex_bytes (take_more bytes i d low) ∙ hex-more (take i bytes) (get_or bytes i d))
