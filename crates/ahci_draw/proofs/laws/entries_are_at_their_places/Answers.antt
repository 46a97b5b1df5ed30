use Rattle.ahci_draw.proofs.PlaceLemmas.{are_at_their_places}
use Rattle.ahci_draw.proofs.laws.entries_are_at_their_places.Goals as goal

pub returns : goal.returns
returns c = are_at_their_places
