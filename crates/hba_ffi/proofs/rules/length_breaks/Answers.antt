use Rattle.std.proofs.Common.{refl}
use Rattle.hba_ffi.specs.Judging.{is_none, is_rule}
use Rattle.hba_ffi.proofs.rules.length_breaks.Goals as goal

pub returns-in-Some : goal.returns-in-Some
returns-in-Some c = is_rule c.in-Some.rule c.in-Some.ensures c.on_length.ensures

pub returns-in-None : goal.returns-in-None
returns-in-None c = is_none c.in-None.ensures refl refl
