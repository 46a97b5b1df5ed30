use Rattle.ahci_hba.proofs.DeliveringLemmas.{gives_page}
use Rattle.ahci_hba.proofs.hba.Hba.give_page.Goals as goal

pub returns-in-Dma : goal.returns-in-Dma
returns-in-Dma g c =
    gives_page c.args.self.now c.take_command-list.new.self c.read_answer.new.self c.args.slot c.args.protocol _ _ c.args.page.items c.done.result c.in-Dma.is
    c.take_command-list.ensures.slots c.take_command-list.ensures.list c.done.ensures c.read_answer.ensures
