use Rattle.std.proofs.Common.{refl}
use Rattle.hba_ffi.specs.Judging.{is_none, is_rule}
use Rattle.hba_ffi.proofs.rules.write_breaks.Goals as goal

pub returns-in-Some : goal.returns-in-Some
returns-in-Some g c = is_rule c.in-Some.rule c.in-Some.ensures c.on_write.ensures

pub returns-in-None : goal.returns-in-None
returns-in-None g c = is_none c.in-None.ensures refl refl
