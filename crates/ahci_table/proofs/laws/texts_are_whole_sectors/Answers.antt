use Rattle.ahci_table.proofs.LawLemmas.{whole_text}
use Rattle.ahci_table.proofs.laws.texts_are_whole_sectors.Goals as goal

pub returns : goal.returns
returns c = whole_text
