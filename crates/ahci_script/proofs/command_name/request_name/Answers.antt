-- A name of more than five letters is read off letter by letter, and what it names is computed.
use Rattle.std.proofs.Common.{codes, arith}
use Rattle.ahci_script.specs.Names.{request_name}
use Rattle.ahci_script.proofs.NameLemmas.{named}
use Rattle.ahci_script.proofs.command_name.request_name.Goals as goal

pub returns-in-collect : goal.returns-in-collect
unfolding request_name
returns-in-collect c = named request_name c.args.name.now (codes "collect") (omega arith) (search arith)

pub returns-in-recover : goal.returns-in-recover
unfolding request_name
returns-in-recover c = named request_name c.args.name.now (codes "recover") (omega arith) (search arith)

pub returns-in-reissue : goal.returns-in-reissue
unfolding request_name
returns-in-reissue c = named request_name c.args.name.now (codes "reissue") (omega arith) (search arith)
