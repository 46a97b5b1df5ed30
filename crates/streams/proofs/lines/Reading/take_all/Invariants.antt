use Rattle.std.proofs.Common.{◌≡◌, ◌≤◌}
use Rattle.streams.specs.Standing.{HasRead, left_in, stand}
use Rattle.streams.proofs.lines.Reading.take_all.Given as goal

-- what was read so far is taken, and no read failed
abbrev pub invariant-loop : goal.invariant-loop
invariant-loop g l = record {
  taken : HasRead g.T.TakesLines.Takes (stand (g.R.Read.remaining l.initial.reader) (l.initial.taker, l.initial.output) l.initial.self)
      (stand (g.R.Read.remaining l.reader) (l.taker, l.output) l.self);
  counted : l.self.input.came ≤ l.reads.came;
  unfailed : l.reads.failed ≡ l.initial.reads.failed;
}

abbrev pub decreases-loop : goal.decreases-loop
decreases-loop g l = left_in l.self
