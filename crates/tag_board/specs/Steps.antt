-- The kinds of step on the board's word, and what the seat learns that makes it. Both the word found with the view
-- before and the word left with the view after are in a partition.
--
-- kind        by                          the word              the views
-- first seat  `new`                       the tags below depth  the first is blank
-- split       `split`                     is loaded             the new one is blank; the old one stays
-- join        `join`                      is loaded             the first gains the second's tags; the second is spent
-- load        `free_now`                  is loaded             the log gains Seen
-- fetch_and   `claim`, once a tag tried   loses the tag         gains the tag where the word had it; the log gains Tried
-- fetch_or    `give_back`                 gains the tag         loses the tag; the log gains Gave
use Rattle.std.specs.Prelude.{◌≡◌, ℕ, ◌^◌, ◌<◌, bit_and, bit_or}
use Rattle.std.specs.Int.{w32, bit_not}
use Rattle.word_bits.specs.Places.{bits, has_place}
use Rattle.atomic_table.specs.Table.{Me, Step}
use Rattle.tag_board.specs.declared.view.View.{View}
use Rattle.tag_board.specs.View.{after_seen, after_tried, after_gave}
use Rattle.tag_board.specs.Partition.{Stands}

module _ {S : Type 0} where
  abbrev pub Loads : Step S → Me S View → ℕ → Me S View → Type 0
  Loads s before word after =
      Stands word before.0 × Stands word after.0 × (after ≡ (after_seen before.0 word, before.1))

  -- of the tag whose mask is the operand
  abbrev pub Tries : Step S → Me S View → ℕ → Me S View → Type 0
  Tries s before word after =
      (t : ℕ) → t < 32 → s.first ≡ bit_not w32 (2 ^ t)
      → Stands word before.0 × Stands (bit_and word s.first) after.0
      × (after ≡ (after_tried before.0 t (has_place (bits word) t), before.1))

  -- of the tag whose bit is the operand
  abbrev pub Gives : Step S → Me S View → ℕ → Me S View → Type 0
  Gives s before word after =
      (t : ℕ) → t < 32 → s.first ≡ 2 ^ t
      → Stands word before.0 × Stands (bit_or word s.first) after.0 × (after ≡ (after_gave before.0 t, before.1))
