-- the word has the tags so far
use Rattle.std.proofs.Common.{◌≡◌, take}
use Rattle.ahci_port.specs.Registers.{word_of_tags}
use Rattle.ahci_port.proofs.port.serve.word_of_tags.Given as goal

abbrev pub invariant-loop-index : goal.invariant-loop-index
invariant-loop-index l = l.word ≡ word_of_tags (take l.index l.tags)
