use Rattle.ahci_draw.proofs.CharacterLemmas.{closed_characters}
use Rattle.ahci_draw.proofs.laws.a_closed_text_has_characters_alone.Goals as goal

pub returns : goal.returns
returns c = closed_characters
