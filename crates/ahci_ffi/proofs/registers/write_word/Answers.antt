use Rattle.std.proofs.Common.{ap, refl}
use Rattle.ahci_ffi.specs.declared.status.Status.TheVariants.{Refused}
use Rattle.ahci_ffi.specs.Writing.{is_refused, is_taken}
use Rattle.ahci_ffi.proofs.registers.write_word.Goals as goal

pub returns-in-Ok : goal.returns-in-Ok
returns-in-Ok g c = is_taken c.in-Ok.did refl c.in-Ok.ensures.ok c.flat_written.ensures

pub returns-in-Err : goal.returns-in-Err
returns-in-Err g c = is_refused c.in-Err.fault (ap (λ reason. Refused reason) c.into.ensures) c.in-Err.ensures.fault c.in-Err.ensures.err c.flat_refused.ensures
