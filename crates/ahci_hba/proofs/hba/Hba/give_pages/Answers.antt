use Rattle.ahci_hba.proofs.DeliveringLemmas.{gives_pages}
use Rattle.ahci_hba.proofs.hba.Hba.give_pages.Goals as goal

pub returns-in-Dma : goal.returns-in-Dma
returns-in-Dma g c =
    gives_pages c.args.self.now c.take_command-list.new.self c.read_answer.new.self c.args.slot c.args.protocol _ _ c.args.bytes.items c.args.count c.done.result c.in-Dma.is
    c.take_command-list.ensures.slots c.take_command-list.ensures.list c.done.ensures c.read_answer.ensures
