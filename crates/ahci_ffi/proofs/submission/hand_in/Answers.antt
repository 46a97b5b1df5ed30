use Rattle.std.proofs.Common.{ap, refl}
use Rattle.ahci_ffi.specs.declared.status.Status.TheVariants.{Refused}
use Rattle.ahci_ffi.specs.Done.{is_refused}
use Rattle.ahci_ffi.proofs.submission.hand_in.Goals as goal

pub returns-in-Err : goal.returns-in-Err
returns-in-Err g c = is_refused c.in-Err.fault (ap (λ reason. Refused reason) c.into.ensures) c.in-Err.ensures.fault c.in-Err.ensures.err.1 refl
