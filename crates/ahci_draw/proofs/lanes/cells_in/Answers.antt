use Rattle.std.proofs.Common.{◌∙◌, sym, List, ℕ}
use Rattle.std.specs.Borrow.{Bor}
use Rattle.std.proofs.lemmas.Result.{IfOk-weaker}
use Rattle.std.specs.Prelude.{slice_index}
use Rattle.ahci_draw.proofs.LinesLemmas.{mapped_twice}
use Rattle.ahci_draw.proofs.lanes.cells_in.Goals as goal

pub returns : goal.returns
returns g c =
    IfOk-weaker c.bytes_at.result _ _
    (λ cells h. h ∙ sym (mapped_twice (λ text. slice_index text c.args.place) (λ (line : Bor (List ℕ)). line.now) c.args.lines.now)) c.bytes_at.ensures
