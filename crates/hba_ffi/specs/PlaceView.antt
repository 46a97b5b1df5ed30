-- What a place holds: a controller, or none.
use Rattle.std.specs.Prelude.{Option}
use Rattle.ahci_hba.specs.HbaView.{HbaView}
use Rattle.hba_ffi.specs.declared.place.HbaPlace.{HbaPlace}

-- what a place of the code holds
unfoldable pub view_of : HbaPlace → Option HbaView
view_of place = place.held.hba
