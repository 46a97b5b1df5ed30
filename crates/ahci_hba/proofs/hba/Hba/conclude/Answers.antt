use Rattle.ahci_hba.proofs.DeliveringLemmas.{concludes}
use Rattle.ahci_hba.proofs.hba.Hba.conclude.Goals as goal

pub returns : goal.returns
returns g c =
    concludes c.args.self.now c.vacate.new.self c.answer.new.self c.args.slot c.args.fis _ _ _ _ _ c.vacate.ensures c.answer.ensures c.only_after-writes.ensures c.received_put-put.ensures
    c.encode.ensures.bytes c.fis_ending-last.ensures c.of.ensures
