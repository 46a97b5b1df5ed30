use Rattle.ata_pages.proofs.TellingLemmas.{error_told}
use Rattle.ata_pages.proofs.laws.a_log_text_tells_its_error.Goals as goal

pub returns : goal.returns
returns c = error_told
