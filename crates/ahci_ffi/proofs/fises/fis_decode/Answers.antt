use Rattle.std.proofs.Common.{refl}
use Rattle.ahci_ffi.specs.Fises.{is_fault, is_fis}
use Rattle.ahci_ffi.proofs.fises.fis_decode.Goals as goal

pub returns-in-Ok : goal.returns-in-Ok
returns-in-Ok c = is_fis c.in-Ok.found c.in-Ok.ensures.ok refl c.flat_fis.ensures

pub returns-in-Err : goal.returns-in-Err
returns-in-Err c = is_fault c.in-Err.fault c.in-Err.ensures.err c.fis_status.ensures refl
