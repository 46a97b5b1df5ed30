-- A write's bytes that are laid piece by piece are as if they were copied over zeros.
use Rattle.std.proofs.Common.{◌≡◌, ◌++◌, ℕ, List, length, ap, sym, subst, ◌∙◌}
use Rattle.std.proofs.lemmas.Result.{IfOk-weaker}
use Rattle.ncq_journal.specs.Work.{work_of}
use Rattle.ahci_table.specs.Build.{data_for}
use Rattle.ahci_table.specs.Laying.{laid, rises}
use Rattle.ahci_table.proofs.BuildLemmas.{IsLaid, is_laid}
use Rattle.ahci_table.proofs.RefusalLemmas.{IsFree, free_from}
use Rattle.ahci_table.proofs.build.with_data.Goals as goal

laid_here : (g : _) (c : goal.After-lay g) (bytes : List ℕ)
    → bytes ≡ c.args.table.items ++ laid (length c.args.table.items) c.args.pieces.now c.as_slice.result.now
    → IsLaid c.args.pieces.now c.args.table.items c.in-Write.text.bytes bytes
laid_here g c bytes is = is_laid c.in-Write.lba c.args.pieces.now c.args.table.items c.in-Write.text.bytes bytes
    (subst (λ w. IsFree w c.args.pieces.now) (ap work_of c.in-Write.is) (free_from (work_of c.args.op.now) c.args.pieces.now c.requires.free)) c.requires.table
    (ap (λ n. rises n c.args.pieces.now) (sym c.args.table.ok.0 ∙ sym c.len.ensures) ∙ sym c.rises.ensures ∙ c.if-rises.true)
    (is ∙ ap (λ t. c.args.table.items ++ laid (length c.args.table.items) c.args.pieces.now t) c.as_slice.ensures)

pub returns-in-Write-clause-len : goal.returns-in-Write-clause-len
returns-in-Write-clause-len g c = IfOk-weaker c.lay.result _ _ (λ v is. (laid_here g c v.items is).len) c.lay.ensures

pub returns-in-Write-clause-text : goal.returns-in-Write-clause-text
returns-in-Write-clause-text g c = IfOk-weaker c.lay.result _ _ (λ v is. (laid_here g c v.items is).text_is ∙ sym (ap (λ o. data_for (work_of o)) c.in-Write.is)) c.lay.ensures

pub returns-in-Write-clause-others : goal.returns-in-Write-clause-others
returns-in-Write-clause-others g c = IfOk-weaker c.lay.result _ _ (λ v is. (laid_here g c v.items is).others) c.lay.ensures
