-- the list has the word's tags so far, so there is room for the next
use Rattle.std.proofs.Common.{◌≡◌, ◌≤◌, length}
use Rattle.std.specs.List.{filter, range_with_len}
use Rattle.word_bits.specs.Places.{bits, has_place}
use Rattle.ahci_driver.proofs.chooser.tags_in.Given as goal

abbrev pub invariant-loop-tag : goal.invariant-loop-tag
invariant-loop-tag l = record {
  items : l.tags.items ≡ filter (has_place (bits l.word)) (range_with_len 0 l.tag);
  room : length l.tags.items ≤ l.tag;
}
