use Rattle.std.proofs.Common.{◌∙◌, refl}
use Rattle.streams.specs.Standing.{Halts, stand}
use Rattle.streams.proofs.FoundLemmas.{if_err_from}
use Rattle.streams.proofs.ReadingLemmas.{HasRead-refl, HasRead-trans, ends_last, halts_after, halts_last}
use Rattle.streams.proofs.lines.Reading.take_all.Goals as goal

pub loop-init : goal.loop-init
loop-init g c = record { taken = HasRead-refl _; counted = c.requires.counted; unfailed = refl }

pub loop-preserved : goal.loop-preserved
loop-preserved g c = record {
  taken = HasRead-trans _ _ _ c.loop.invariant.taken c.in_ok-turn.ensures.ok;
  counted = c.in_ok-turn.ensures.counted;
  unfailed = c.in_ok-turn.ensures.unfailed ∙ c.loop.invariant.unfailed;
}

pub returns-in_err-turn-clause-err : goal.returns-in_err-turn-clause-err
returns-in_err-turn-clause-err g c =
    if_err_from _ c.in_err-turn.field-0.0 (Halts g.T.TakesLines.Takes g.T.TakesLines.Refuses _ _) c.from_residual.ensures.1 (halts_after g.T.TakesLines.Takes g.T.TakesLines.Refuses c.in_err-turn.field-0.0 _ _ _ c.loop.invariant.taken c.in_err-turn.ensures.err)

pub returns-in-Ok-clause-ok : goal.returns-in-Ok-clause-ok
returns-in-Ok-clause-ok g c =
    ends_last _ _ (stand (g.R.Read.remaining c.turn.new.reader) (c.turn.new.taker, c.turn.new.output) c.turn.new.self) _ (HasRead-trans _ _ _ c.loop.invariant.taken c.in_ok-turn.ensures.ok)
    (c.in_ok-turn.ensures.end c.if-branch.false) c.last.ensures c.in-Ok.ensures.ok

pub returns-in-Err-clause-err : goal.returns-in-Err-clause-err
returns-in-Err-clause-err g c =
    halts_last g.T.TakesLines.Takes g.T.TakesLines.Refuses _ c.in-Err.fault _ (stand (g.R.Read.remaining c.turn.new.reader) (c.turn.new.taker, c.turn.new.output) c.turn.new.self) _ (HasRead-trans _ _ _ c.loop.invariant.taken c.in_ok-turn.ensures.ok)
    (c.in_ok-turn.ensures.end c.if-branch.false) c.last.ensures c.in-Err.ensures.err
