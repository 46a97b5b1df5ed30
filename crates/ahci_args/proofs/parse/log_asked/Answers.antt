use Rattle.std.proofs.Common.{arith}
use Rattle.ahci_args.specs.CommandLine.{last_tag}
use Rattle.ahci_args.proofs.parse.log_asked.Goals as goal

pub overflow_cast-result : goal.overflow_cast-result
overflow_cast-result c = let t = c.requires.tag in omega (arith, c.number.ensures 0 last_tag t.0 t.1, t.1.most)
