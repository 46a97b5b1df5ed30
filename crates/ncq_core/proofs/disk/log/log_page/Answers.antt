use Rattle.std.proofs.Common.{ℕ, List, ◌++◌, [], ◌∷◌, replicate, ap, sym, ◌∙◌}
use Rattle.ncq_core.specs.DiskState.{DiskError}
use Rattle.ncq_core.specs.Log.{checksum}
use Rattle.ncq_core.proofs.PageLemmas.{logged, log_page_is}
use Rattle.ncq_core.proofs.disk.log.log_page.Goals as goal

pub returns : goal.returns
returns c =
    let e : DiskError = record { tag = c.args.tag; error = c.args.error; lba = c.args.lba } in
    logged c.copy_from_slice.new.self 11 500 c.checksum.result c.copy_from_slice.ensures.len c.checksum.ensures
    ∙ ap (λ (head : List ℕ). (head ++ replicate 500 0) ++ checksum (head ++ replicate 500 0) ∷ []) (c.copy_from_slice.ensures.after ∙ c.log_head.ensures)
    ∙ sym (log_page_is e)
