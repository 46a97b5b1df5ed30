use Rattle.std.proofs.Common.{◌≡◌, length, take, drop, ◌-◌, min, ap, ◌∙◌, arith, length-drop}
use Rattle.std.proofs.lemmas.List.{take_all}
use Rattle.ncq_journal.proofs.ImageLemmas.{sector_at-slice}
use Rattle.ncq_journal.proofs.sector.sector_in.Goals as goal

pub returns : goal.returns
returns c =
    let bytes = c.args.bytes.now in
    let start = c.min-start.result in
    let rest : length (drop start bytes) ≡ length bytes - start = length-drop start bytes in
    let cut : length (take (length bytes - start) (drop start bytes)) ≡ length bytes - start = ap length (take_all (length bytes - start) (drop start bytes) (omega arith)) ∙ rest in
    sector_at-slice bytes c.args.number start c.min.result (omega arith) (c.min.ensures ∙ ap (λ k. min k 512) cut)
