use Rattle.ata_pages.proofs.TellingLemmas.{words_told}
use Rattle.ata_pages.proofs.laws.an_identify_text_tells_each_word_of_the_table.Goals as goal

pub returns : goal.returns
returns c = words_told
