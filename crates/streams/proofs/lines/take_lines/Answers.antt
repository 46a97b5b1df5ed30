use Rattle.streams.specs.Standing.{Ends, Halts, stand}
use Rattle.streams.proofs.FoundLemmas.{if_err_map, on_ok_from}
use Rattle.streams.proofs.ReadingLemmas.{from_start, reads_all, stops_reading}
use Rattle.streams.proofs.lines.take_lines.Goals as goal

pub returns-clause-ok : goal.returns-clause-ok
returns-clause-ok g c =
    let b = c.in_ok-reading.reading in
    let to = stand (g.R.Read.remaining c.take_all.new.reader) (c.take_all.new.taker, c.take_all.new.output) c.take_all.new.self in
    on_ok_from c.take_all.result _ _ c.take_all.ensures.ok
    (λ e. reads_all (g.R.Read.remaining c.args.reader.now) (c.args.taker.now, c.args.output.now) to (from_start (λ a. Ends g.T.TakesLines.Takes a to) _ b.input.bytes b.input.came b.line _ c.in_ok-reading.ensures e))

pub returns-clause-err : goal.returns-clause-err
returns-clause-err g c =
    let b = c.in_ok-reading.reading in
    let to = stand (g.R.Read.remaining c.take_all.new.reader) (c.take_all.new.taker, c.take_all.new.output) c.take_all.new.self in
    if_err_map c.take_all.result _ _ c.take_all.ensures.err
    (λ f h. stops_reading g.T.TakesLines.Takes g.T.TakesLines.Refuses f (g.R.Read.remaining c.args.reader.now) (c.args.taker.now, c.args.output.now) to (from_start (λ a. Halts g.T.TakesLines.Takes g.T.TakesLines.Refuses a to f) _ b.input.bytes b.input.came b.line _ c.in_ok-reading.ensures h))
