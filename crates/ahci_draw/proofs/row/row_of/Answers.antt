use Rattle.ahci_draw.proofs.LinesLemmas.{row_short, row_whole}
use Rattle.ahci_draw.proofs.row.row_of.Goals as goal

pub returns-then-rest-lt100 : goal.returns-then-rest-lt100
returns-then-rest-lt100 c = row_short c.args.lines.now c.args.row c.if-rest-lt100.true

pub returns : goal.returns
returns c = row_whole c.args.lines.now c.args.row
