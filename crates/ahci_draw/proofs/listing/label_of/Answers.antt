use Rattle.std.proofs.Common.{ap}
use Rattle.ahci_draw.specs.Lines.{front_to}
use Rattle.ahci_draw.proofs.listing.label_of.Goals as goal

pub returns-in-Some : goal.returns-in-Some
returns-in-Some c = ap (front_to c.args.title.now) c.in-Some.ensures.place

pub returns-in-None : goal.returns-in-None
returns-in-None c = ap (front_to c.args.title.now) c.in-None.ensures.place
