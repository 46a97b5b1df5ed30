use Rattle.std.proofs.Common.{IsSomeAnd, Option, map, subst, sym}
use Rattle.std.specs.List.{slice_get}
use Rattle.std.specs.Prelude.{◌↔◌, IsTrue}
use Rattle.ncq_journal.specs.Work.{Work, work_of}
use Rattle.ahci_driver.specs.Received.{Received, received_of}
use Rattle.ahci_driver.specs.Settled.{IsFit}
use Rattle.ahci_driver.proofs.SettlingLemmas.{mapped}
use Rattle.ahci_driver.proofs.settlement.fits.Goals as goal

pub returns : goal.returns
returns g c =
    let receipts = map received_of c.args.receipts.now in
    subst (λ (o : Option Work). IsTrue c.is_fit.result ↔ IsSomeAnd o (λ work. IsSomeAnd (slice_get receipts c.args.index) (IsFit c.args.port.now receipts c.args.workers c.args.index work)))
    (sym (mapped work_of c.args.jobs.now c.args.index c.index-jobs-index.result c.requires.job c.index-jobs-index.is))
    (subst (λ (o : Option Received). IsTrue c.is_fit.result ↔ IsSomeAnd o (IsFit c.args.port.now receipts c.args.workers c.args.index (work_of c.index-jobs-index.result)))
    (sym (mapped received_of c.args.receipts.now c.args.index c.index-receipts-index.result c.requires.receipt c.index-receipts-index.is)) c.is_fit.ensures)
