-- The notes of the first ones are appended.
use Rattle.std.proofs.Common.{◌≡◌, ◌++◌, take}
use Rattle.std.specs.List.{flat_map}
use Rattle.ahci_trace.proofs.note.push_notes.Given as goal

abbrev pub invariant-loop-one : goal.invariant-loop-one
invariant-loop-one g l =
    l.text.bytes ≡ l.initial.text.bytes ++ flat_map g.T.Note.note (take l.one-index l.each)
