use Rattle.std.proofs.Common.{sym}
use Rattle.streams.specs.Standing.{Halts, stand}
use Rattle.streams.specs.Unread.{unfinished, whole}
use Rattle.streams.specs.declared.stopped.Stopped.TheVariants.{Read}
use Rattle.streams.proofs.FoundLemmas.{if_err_from}
use Rattle.streams.proofs.ReadingLemmas.{HasRead-line, HasRead-more, HasRead-refl, halts_at, halts_reading}
use Rattle.streams.proofs.lines.Reading.turn.Goals as goal

pub returns-in-TooLong-clause-ok : goal.returns-in-TooLong-clause-ok
returns-in-TooLong-clause-ok g c = HasRead-refl _

pub returns-in-Err-clause-err : goal.returns-in-Err-clause-err
returns-in-Err-clause-err g c =
    halts_at g.T.TakesLines.Takes g.T.TakesLines.Refuses unfinished c.in-Err.fault (stand (g.R.Read.remaining c.args.reader.now) (c.args.taker.now, c.args.output.now) c.args.self.now) _ c.in-Unfinished.ensures c.in-Err.ensures.err

pub returns-in_err-fill-in-Ok-clause-err : goal.returns-in_err-fill-in-Ok-clause-err
returns-in_err-fill-in-Ok-clause-err g c =
    if_err_from _ Read (Halts g.T.TakesLines.Takes g.T.TakesLines.Refuses _ _) c.from_residual.ensures.1
    (halts_reading g.T.TakesLines.Takes g.T.TakesLines.Refuses c.args.self.now.input c.fill.new.self _ _ _ _ _ c.in-Ok.ensures.ok (sym c.in-Unfinished.ensures) c.in_err-fill-in-Ok.ensures.failed c.in_err-fill-in-Ok.ensures.err)

pub returns-in_ok-fill-in-Ok-clause-ok : goal.returns-in_ok-fill-in-Ok-clause-ok
returns-in_ok-fill-in-Ok-clause-ok g c = HasRead-more _ c.args.self.now.input c.fill.new.self _ _ _ _ _ c.in-Ok.ensures.ok c.in_ok-fill-in-Ok.ensures.ok

pub returns-in-Err-take-clause-err : goal.returns-in-Err-take-clause-err
returns-in-Err-take-clause-err g c =
    halts_at g.T.TakesLines.Takes g.T.TakesLines.Refuses (whole c.in-Line.line.now) c.in-Err-take.fault (stand (g.R.Read.remaining c.args.reader.now) (c.args.taker.now, c.args.output.now) c.args.self.now) _ c.in-Line.ensures c.in-Err-take.ensures.err

pub returns-clause-ok : goal.returns-clause-ok
returns-clause-ok g c =
    HasRead-line _ c.args.self.now.input.bytes c.in-Line.line.now _ _ _ _ _ _ c.in-Line.ensures c.in-Ok-take.ensures.ok c.skip.ensures.bytes c.skip.ensures.came
