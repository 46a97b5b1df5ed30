use Rattle.ahci_draw.proofs.PlaceLemmas.{places_hold}
use Rattle.ahci_draw.proofs.laws.places_hold_each_entry_once.Goals as goal

pub returns : goal.returns
returns c = places_hold
