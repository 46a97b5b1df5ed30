-- One character more of a text.
use Rattle.std.proofs.Common.{◌≡◌, ℕ, ◌+◌, ◌<◌, List, length, take, get_or}
use Rattle.std.proofs.lemmas.List.Sums.{fold_more}
use Rattle.hba_command.specs.WideName.{next_number, text_number}

pub one_character_more : (before : ℕ) (text : List ℕ) (i : ℕ) → i < length text
    → text_number before (take (i + 1) text) ≡ next_number (text_number before (take i text)) (get_or text i 0)
one_character_more before text i h = fold_more next_number before text i 0 h
