use Rattle.std.proofs.Common.{◌∙◌, sym, List, ℕ}
use Rattle.std.specs.Borrow.{Bor}
use Rattle.ahci_draw.specs.Lanes.{is_told}
use Rattle.ahci_draw.proofs.PieceLemmas.{any_mapped}
use Rattle.ahci_draw.proofs.lanes.has_lane.Goals as goal

pub returns : goal.returns
returns c = c.some_tells.ensures ∙ sym (any_mapped (λ line. is_told line c.args.tag) (λ (line : Bor (List ℕ)). line.now) c.args.lines.now)
