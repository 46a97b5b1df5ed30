use Rattle.std.proofs.Common.{◌≤◌, length, sym, arith}
use Rattle.std.proofs.Math.ListN.{drop_of_length-le}
use Rattle.std.proofs.lemmas.List.{take_rest}
use Rattle.ahci_draw.proofs.listing.title_of.Goals as goal

pub returns-then-line-lt-TITLE : goal.returns-then-line-lt-TITLE
returns-then-line-lt-TITLE c =
    let short = c.if-line-lt-TITLE.true in
    let low : length c.args.line.now ≤ 35 = omega (arith, short) in
    sym (drop_of_length-le c.args.line.now low)

pub returns : goal.returns
returns c = take_rest c.args.line.now 35
