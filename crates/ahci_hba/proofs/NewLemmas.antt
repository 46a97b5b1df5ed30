-- A controller is made where its port is.
use Rattle.std.proofs.Common.{◌≡◌, IfErr, Option, None, Some, Result, Ok, Err}
use Rattle.ncq_core.specs.declared.disk_fault.DiskFault.{DiskFault}
use Rattle.ahci_port.specs.Faults.{AnswersOr}

pub made_with : {T U : Type 0} (x : T) (y : U) (o : Option DiskFault) (lacking : DiskFault) → AnswersOr {T = T} (Ok x) o lacking → AnswersOr {T = U} (Ok y) o lacking
made_with x y None lacking h = tt
made_with x y (Some fault) lacking h = cc

-- the same of what is made next, or lacks memory
pub made_or : {T U : Type 0} (x : T) (r : Result U DiskFault) (o : Option DiskFault) (lacking : DiskFault) → AnswersOr {T = T} (Ok x) o lacking → IfErr r (λ e. e ≡ lacking) → AnswersOr r o lacking
made_or x (Ok y) o lacking h is = made_with x y o lacking h
made_or x (Err e) None lacking h is = is
made_or x (Err e) (Some fault) lacking h is = cc
