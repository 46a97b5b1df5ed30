-- The place of a script.
use Rattle.std.specs.Prelude.{ℕ, Bool, List, Option}
use Rattle.ahci_port.specs.PortView.{PortView}

-- what the writer holds, where that is known, what is answered and not written, the port, and whether a write failed
pub record Place : Type 0 where
  pub contents : Option (List ℕ)
  pub waiting : List ℕ
  pub port : Option PortView
  pub failed : Bool

abbrev pub place : Option (List ℕ) → List ℕ → Option PortView → Bool → Place
place contents waiting port failed = record { contents = contents; waiting = waiting; port = port; failed = failed }
