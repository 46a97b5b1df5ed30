use Rattle.ahci_driver.proofs.TrimmingLemmas.{kept}
use Rattle.ahci_driver.proofs.driver.trim_locked.Goals as goal

pub returns-clause-lawful : goal.returns-clause-lawful
returns-clause-lawful g c = kept c.args.port.now c.trim.result c.keeps_its_promise.ensures.headline c.keeps_its_promise.ensures.shape c.trim.ensures.journal
