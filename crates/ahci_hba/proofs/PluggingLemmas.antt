-- Another disk is plugged in where its port is made.
use Rattle.std.proofs.Common.{◌≡◌, ℕ, Bool, true, false, Option, None, Some, Ok, if◌then◌else◌}
use Rattle.std.specs.Option.{option_map, option_or}
use Rattle.ncq_core.specs.declared.disk_fault.DiskFault.{DiskFault}
use Rattle.ncq_core.specs.DiskState.{over_fault}
use Rattle.ahci_port.specs.Faults.{AnswersOr, most_first, over_refusal, reset_refusal, resume_fault_of}
use Rattle.ahci_port.specs.PortView.{PortView, next_number}
use Rattle.ahci_port.specs.declared.fault.ResetFault.TheVariants as reset
use Rattle.ahci_port.specs.declared.fault.ResumeFault.{ResumeFault}
use Rattle.ahci_port.specs.declared.fault.ResumeFault.TheVariants as resume
use Rattle.ahci_hba.specs.HbaView.{HbaView}
use Rattle.ahci_hba.specs.Plugging.{plug_refusal}
use Rattle.ahci_hba.specs.declared.fault.PlugFault.TheVariants.{Occupied, Disk}
use Rattle.std.specs.Prelude.{nat_lt}

-- a port that is made goes on from a number that is not too large
goes_on_from : {T : Type 0} (x : T) (fault : Option DiskFault) (is_over : Bool) → AnswersOr {T = T} (Ok x) (option_or (option_map resume_fault_of fault) (if is_over then Some resume.BadFirst else None)) resume.OutOfMemory → (if is_over then Some reset.Spent else None) ≡ None
goes_on_from x None false h = cc
goes_on_from x None true h = cc
goes_on_from x (Some fault) is_over h = cc

pub goes_on : {T : Type 0} (x : T) (port : PortView) (sectors depth : ℕ) → AnswersOr {T = T} (Ok x) (over_refusal sectors depth (next_number port)) resume.OutOfMemory → reset_refusal port ≡ None
goes_on x port sectors depth h = goes_on_from x (over_fault sectors depth) (nat_lt most_first (next_number port)) h

-- so another disk is plugged in, if none is in
plugs_over : {T U : Type 0} (x : T) (y : U) (present : Bool) (o : Option ResumeFault) → present ≡ false → AnswersOr {T = T} (Ok x) o resume.OutOfMemory → AnswersOr {T = U} (Ok y) (if present then Some Occupied else option_map Disk o) (Disk resume.OutOfMemory)
plugs_over x y false None is h = tt
plugs_over x y false (Some fault) is h = cc
plugs_over x y true o is h = cc

pub plugs : {T U : Type 0} (x : T) (y : U) (h : HbaView) (sectors depth : ℕ) → h.registers.port.present ≡ false → AnswersOr {T = T} (Ok x) (over_refusal sectors depth (next_number h.port)) resume.OutOfMemory → AnswersOr {T = U} (Ok y) (plug_refusal h sectors depth) (Disk resume.OutOfMemory)
plugs x y h sectors depth is o = plugs_over x y h.registers.port.present (over_refusal sectors depth (next_number h.port)) is o
