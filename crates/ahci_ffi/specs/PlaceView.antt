-- What a place holds: a port, or none, and what software has half written to the port's registers.
use Rattle.std.specs.Prelude.{Option, None}
use Rattle.ahci_port.specs.PortView.{PortView}
use Rattle.ahci_port.specs.Writes.{nothing_pending}
use Rattle.ahci_port.specs.declared.pending.Pending.{Pending}
use Rattle.ahci_ffi.specs.declared.place.Place.{Place}

pub record PlaceView : Type 0 where
  pub port : Option PortView
  pub pending : Pending

-- a place that holds nothing
abbrev pub empty_place : PlaceView
empty_place = record { port = None; pending = nothing_pending }

-- what a place of the code holds
unfoldable pub view_of : Place → PlaceView
view_of place = record { port = place.held.port; pending = record { sact = place.announced; stopped = place.stopped } }
