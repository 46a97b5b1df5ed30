use Rattle.std.proofs.Common.{ap, refl}
use Rattle.ahci_ffi.specs.declared.status.Status.TheVariants.{Refused}
use Rattle.ahci_ffi.specs.Alone.{breaks}
use Rattle.ahci_ffi.proofs.windows.look.Goals as goal

pub returns-in-Err : goal.returns-in-Err
returns-in-Err g c = breaks c.in-Err.fault (ap (λ reason. Refused reason) c.into.ensures) c.in-Err.ensures.fault refl
