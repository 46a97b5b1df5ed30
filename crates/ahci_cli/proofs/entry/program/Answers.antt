use Rattle.std.proofs.Common.{Global, inl, inr, refl, map}
use Rattle.std.specs.String.{string_bytes}
use Rattle.clap.specs.Words.{kind_of}
use Rattle.ahci_cli.proofs.ProgramLemmas.{has_ranges}
use Rattle.ahci_cli.proofs.entry.program.Goals as goal

pub done-outcome-requires-after_bounds : goal.done-outcome-requires-after_bounds
done-outcome-requires-after_bounds g c κs within = has_ranges (map (string_bytes {Z = Global}) c.args.words.now) c.in-Ok.asked c.in-Ok.ensures.ok

pub returns-in-Err : goal.returns-in-Err
returns-in-Err g c = inr (record {
  picks = c.in-Err.ensures.faults.0;
  kind = kind_of c.in-Err.error;
  fails = c.in-Err.ensures.faults.1;
  unread = (refl, c.explain.ensures.unread);
  says = c.explain.ensures.says;
})

pub returns-in-Ok : goal.returns-in-Ok
returns-in-Ok g c = inl (record {
  asked = c.in-Ok.asked;
  asks = c.in-Ok.ensures.ok;
  picks = c.in-Ok.ensures.faults.0;
  sound = c.in-Ok.ensures.faults.1;
  outcome = c.done-outcome.result;
  does = c.done-outcome.ensures.does;
  went = record { reads = c.done-outcome.ensures.reads; writes = c.done-outcome.ensures.writes };
  ends = c.end.ensures;
})
