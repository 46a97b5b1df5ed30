-- No tag is named only where the word is 0.
use Rattle.std.proofs.Common.{refl, arith}
use Rattle.device_choice.proofs.OrdersLemmas.{none_is_zero}
use Rattle.ahci_ffi.specs.Choosing.{is_empty}
use Rattle.ahci_ffi.proofs.choose.put_named.Goals as goal

pub returns-in_default : goal.returns-in_default
returns-in_default c = is_empty (none_is_zero c.args.set (omega arith) c.in_default.ensures) refl refl
