-- What a seat's own steps say of the board, as its contracts say it.
use Rattle.std.proofs.Common.{◌≡◌, ℕ, ◌+◌, Bool, false, List, ◌∷◌, sym, ◌∙◌, refl, ap, add-one}
use Rattle.tag_board.specs.declared.finding.Finding.{Finding}
use Rattle.tag_board.specs.declared.finding.Finding.TheVariants.{Tried}
use Rattle.tag_board.specs.View.{missed}
use Rattle.tag_board.specs.Partition.{Stands}
use Rattle.tag_board.specs.Board.{Seated, view_of, IsFreeBeside}
use Rattle.tag_board.proofs.PartitionLemmas.{stands_apart, stands_below}

pub free_beside : (s : Seated) (word : ℕ) → Stands word (view_of s) → IsFreeBeside s word
free_beside s word h = record {
  others = λ t held. stands_apart word (view_of s) t h held;
  below = λ t past. stands_below word (view_of s) t h past;
}

pub missed_none : (log : List Finding) → missed 0 log ≡ log
unfolding missed
missed_none log = refl

missed_more : (t : ℕ) (log : List Finding) → missed (t + 1) log ≡ Tried t false ∷ missed t log
unfolding missed
missed_more t log = ap (λ n. missed n log) (add-one t)

-- one more tag was tried in vain
pub missed_next : (t : ℕ) (had : Bool) (first log new : List Finding) → log ≡ missed t first → had ≡ false → new ≡ Tried t had ∷ log → new ≡ missed (t + 1) first
missed_next t had first log new before vain e =
    e ∙ ap (λ b. Tried t b ∷ log) vain ∙ ap (λ l. Tried t false ∷ l) before ∙ sym (missed_more t first)
