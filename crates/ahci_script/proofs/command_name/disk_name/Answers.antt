-- A name of more than five letters is read off letter by letter, and what it names is computed.
use Rattle.std.proofs.Common.{codes, arith}
use Rattle.ahci_script.specs.Names.{disk_name}
use Rattle.ahci_script.proofs.NameLemmas.{named}
use Rattle.ahci_script.proofs.command_name.disk_name.Goals as goal

pub returns-in-journal : goal.returns-in-journal
unfolding disk_name
returns-in-journal c = named disk_name c.args.name.now (codes "journal") (omega arith) (search arith)

pub returns-in-identify : goal.returns-in-identify
unfolding disk_name
returns-in-identify c = named disk_name c.args.name.now (codes "identify") (omega arith) (search arith)
