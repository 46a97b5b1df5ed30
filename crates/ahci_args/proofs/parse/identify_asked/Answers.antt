use Rattle.std.proofs.Common.{arith}
use Rattle.ahci_args.specs.CommandLine.{most_depth, most_sectors}
use Rattle.ahci_args.proofs.parse.identify_asked.Goals as goal

pub overflow_cast-result : goal.overflow_cast-result
overflow_cast-result c = let s = c.requires.sectors in omega (arith, c.number.ensures 1 most_sectors s.0 s.1, s.1.most)

pub overflow_cast-result-2 : goal.overflow_cast-result-2
overflow_cast-result-2 c = let d = c.requires.depth in omega (arith, c.number-2.ensures 1 most_depth d.0 d.1, d.1.most)
