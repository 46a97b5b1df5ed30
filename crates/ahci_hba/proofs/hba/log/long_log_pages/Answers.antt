-- All pages are read.
use Rattle.std.proofs.Common.{◌≡◌, ◌++◌, ◌∙◌, ap, arith, sym}
use Rattle.hba_command.specs.LongLogs.{long_log_pages}
use Rattle.ahci_hba.proofs.LogLemmas.{one_page_more}
use Rattle.ahci_hba.proofs.hba.log.long_log_pages.Goals as goal

pub returns : goal.returns
returns g c =
    let all : c.loop-index.index ≡ c.args.count = omega arith in
    c.loop-index.invariant ∙ ap (λ n. long_log_pages c.args.log c.args.sectors c.args.depth c.args.device.now c.args.first n) all

pub loop-index-preserved : goal.loop-index-preserved
loop-index-preserved g c =
    c.in_ok-extend_from_slice.ensures.items
    ∙ ap (λ b. b ++ c.long_log_page-page.result) c.loop-index.invariant
    ∙ ap (λ p. long_log_pages c.args.log c.args.sectors c.args.depth c.args.device.now c.args.first c.loop-index.index ++ p) c.long_log_page-page.ensures
    ∙ sym (one_page_more c.args.log c.args.sectors c.args.depth c.args.device.now c.args.first c.loop-index.index)
