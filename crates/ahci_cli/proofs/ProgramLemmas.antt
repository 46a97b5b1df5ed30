-- What the program's parts do, put together.
use Rattle.std.proofs.Common.{◌≡◌, ℕ, List, take, arith, inl, inr}
use Rattle.std.specs.Prelude.{Result, Ok, Err, OnErr, OnOk}
use Rattle.std.specs.Io.KnownBytes.{Appends}
use Rattle.streams.specs.Ends.{WrittenSoFar, with_failed_write, with_flush}
use Rattle.streams.specs.declared.output_failed.OutputFailed.{OutputFailed}
use Rattle.ahci_args.specs.Asking.{AsksFor}
use Rattle.ahci_args.specs.declared.request.Asked.{Asked}
use Rattle.ahci_args.specs.declared.request.Asked.TheVariants.{Replay, Run, Identify, Log, Trace, Check, Draw}
use Rattle.ahci_cli.specs.Program.{HasRanges, IsWritten, Known, output}

-- a text that a writer took to its end, or in part, and how its writes went
pub written : (before after : Known) (text : List ℕ) (old new : WrittenSoFar) (outcome : Result (Unit {0}) OutputFailed)
    → OnOk outcome (Appends before after text) → OnErr outcome ((n : ℕ) × Appends before after (take n text))
    → OnOk outcome (new ≡ with_flush old) → OnErr outcome (new ≡ with_failed_write old) → IsWritten (output before after old new) text
written before after text old new (Ok done) ok err flushed failed = inl (ok, flushed)
written before after text old new (Err fault) ok err flushed failed = inr (err, failed)

-- what words ask for has its numbers in their ranges
pub has_ranges : (words : List (List ℕ)) (asked : Asked) → AsksFor words asked → HasRanges asked
has_ranges words Replay asks = tt
has_ranges words (Check jobs json) asks = tt
has_ranges words (Draw from to) asks = tt
has_ranges words (Trace json) asks = tt
has_ranges words (Run workers depth sectors pick form) asks =
    let has = asks.has.numbers in
    (has.workers.least, has.workers.most, has.depth.least, has.depth.most, has.sectors.least, has.sectors.most)
has_ranges words (Identify sectors depth raw) asks = (asks.has.depth.least, asks.has.depth.most)
has_ranges words (Log tag error lba raw) asks =
    let tag_most = asks.has.place.tag.most in
    let lba_most = asks.has.place.lba.most in
    (omega arith, omega arith)
