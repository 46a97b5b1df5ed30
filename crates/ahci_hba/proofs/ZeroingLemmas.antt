-- The port makes sectors zeros that a step of the device asks it to.
use Rattle.std.proofs.Common.{◌≡◌, ℕ, ◌+◌, ◌≤◌, Bool, true, false, cond, not, ◌&&◌, ◌||◌, Option, None, Some, is_some, refl, arith}
use Rattle.std.specs.List.{list_any}
use Rattle.std.specs.Option.{option_map, option_or}
use Rattle.std.proofs.lemmas.Bool.Decides.{nat_tests}
use Rattle.hba_command.specs.declared.action.Action.TheVariants.{Store}
use Rattle.hba_command.specs.declared.protocol.Protocol.{Protocol}
use Rattle.hba_command.specs.declared.store.Store.{Store as Stores}
use Rattle.ahci_port.specs.Faults.{lacks_sectors, plain_refusal, zero_fault_of, zero_refusal}
use Rattle.ahci_port.specs.PortView.{PortView, sectors_in}
use Rattle.ahci_port.specs.declared.fault.PlainFault.{PlainFault}
use Rattle.ahci_port.specs.declared.fault.ZeroFault.TheVariants as zero
use Rattle.ahci_hba.specs.Executing.{is_aborted}
use Rattle.ahci_hba.specs.HbaView.{HbaView}
use Rattle.ahci_hba.specs.Stepping.{is_answered}
use Rattle.ahci_hba.specs.Zeroing.{can_zero, makes_zeros}

lie_there : (size lba sectors : ℕ) → 1 ≤ sectors → lba + sectors ≤ size → lacks_sectors size lba sectors ≡ false
lie_there size lba sectors some inside = grind (arith, nat_tests)

-- a port that makes sectors zeros takes some of the disk's
pub no_refusal : (port : PortView) (lba sectors : ℕ) → can_zero port ≡ true → 1 ≤ sectors → lba + sectors ≤ sectors_in port → zero_refusal port lba sectors ≡ None
no_refusal port lba sectors can some inside =
    by (plain_refusal port) (list_any is_some port.windows) (lacks_sectors (sectors_in port) lba sectors) can
    (lie_there (sectors_in port) lba sectors some inside)
  where
    by : (o : Option PlainFault) (owned lacks : Bool) → (not (is_some o) && not owned) ≡ true → lacks ≡ false
        → option_or (option_map zero_fault_of o) (cond (not owned) (cond lacks (Some zero.NoSuchSector) None) (Some zero.SlotOwned)) ≡ None
    by None false false can there = refl
    by None true lacks can there = cc
    by None false true can there = cc
    by (Some fault) owned lacks can there = cc

-- a command that makes sectors zeros, and that the device takes and doesn't abort
pub zeros_taken : (h : HbaView) (s : Stores) (p : Protocol) → is_answered h (Store s p) ≡ true → is_aborted h (Store s p) ≡ false → makes_zeros h s ≡ true → can_zero h.port ≡ true
zeros_taken h s p answered kept makes = by (is_aborted h (Store s p)) (makes_zeros h s) (can_zero h.port) answered kept makes
  where
    by : (a m c : Bool) → (a || not m || c) ≡ true → a ≡ false → m ≡ true → c ≡ true
    by true m c e f g = cc
    by false false c e f g = cc
    by false true c e f g = e
