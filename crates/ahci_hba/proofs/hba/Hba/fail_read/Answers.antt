-- The sectors move, and then the error.
use Rattle.std.proofs.Common.{ap, ◌∙◌}
use Rattle.ahci_hba.specs.Failing.{sectors_of}
use Rattle.ahci_hba.proofs.FailingLemmas.{reads_failed}
use Rattle.ahci_hba.proofs.hba.Hba.fail_read.Goals as goal

pub returns-clause-ok : goal.returns-clause-ok
returns-clause-ok g c =
    reads_failed c.args.self.now c.take_command-list.new.self c.move_before.new.self c.args.slot c.args.protocol _ _ _ c.args.first c.args.sectors c.args.fis (λ z. c.if-sectors-eq0.false z)
    c.take_command-list.ensures.slots c.take_command-list.ensures.list (c.in_ok-bytes.ensures ∙ ap (λ v. sectors_of v.port c.args.first c.args.sectors) c.self.view_is) c.move_before.ensures
