use Rattle.ahci_table.proofs.DefaultLemmas.{defaults_serve}
use Rattle.ahci_table.proofs.laws.default_pieces_serve_every_count.Goals as goal

pub returns : goal.returns
returns c = defaults_serve
