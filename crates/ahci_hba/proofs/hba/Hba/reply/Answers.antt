use Rattle.ahci_hba.proofs.DeliveringLemmas.{replies}
use Rattle.ahci_hba.proofs.hba.Hba.reply.Goals as goal

pub returns : goal.returns
returns g c =
    replies c.args.self.now c.conclude.new.self c.turn_by.new.self c.change_by.new.self c.mark_by.new.self c.args.slot c.args.reply.now c.reply_fis-fis.result c.reply_fis-fis.ensures
    c.conclude.ensures c.turn_by.ensures c.change_by.ensures c.mark_by.ensures
