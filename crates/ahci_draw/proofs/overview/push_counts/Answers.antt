use Rattle.std.proofs.Common.{◌++◌, ◌∙◌, ap, length}
use Rattle.streams.proofs.FoundLemmas.{on_ok_from}
use Rattle.ahci_draw.specs.Lines.{texts}
use Rattle.ahci_draw.specs.Overview.{counts_shape, failure_label}
use Rattle.ahci_draw.specs.Places.{count_of}
use Rattle.ahci_draw.specs.Row.{rows_in}
use Rattle.ahci_draw.proofs.overview.push_counts.Goals as goal

pub returns : goal.returns
returns g c =
    let bytes = c.args.text.now.bytes in
    let all = length c.args.signs.now in
    let failed = count_of 88 c.args.signs.now in
    let recovered = count_of 86 c.args.signs.now in
    on_ok_from c.push_numbers.result _ _ c.push_numbers.ensures
    (λ last. last ∙ ap (λ n. bytes ++ counts_shape all n c.count_of-failures.result c.count_of-recoveries.result c.failure_label-first.result.now) c.rows_in-rows.ensures
    ∙ ap (λ n. bytes ++ counts_shape all (rows_in all) n c.count_of-recoveries.result c.failure_label-first.result.now) c.count_of-failures.ensures
    ∙ ap (λ n. bytes ++ counts_shape all (rows_in all) failed n c.failure_label-first.result.now) c.count_of-recoveries.ensures
    ∙ ap (λ label. bytes ++ counts_shape all (rows_in all) failed recovered label)
    (c.failure_label-first.ensures ∙ ap (failure_label (texts c.args.lines.now)) c.first_of.ensures.first))
