-- A name of more than five letters is read off letter by letter, and what it names is computed.
use Rattle.std.proofs.Common.{codes, arith}
use Rattle.ahci_script.specs.Names.{device_name}
use Rattle.ahci_script.proofs.NameLemmas.{named}
use Rattle.ahci_script.proofs.command_name.device_name.Goals as goal

pub returns-in-accept : goal.returns-in-accept
unfolding device_name
returns-in-accept c = named device_name c.args.name.now (codes "accept") (omega arith) (search arith)
