-- What no marked sector stops is served.
use Rattle.ahci_hba.proofs.MarkingLemmas.{serves_whole}
use Rattle.ahci_hba.proofs.hba.Hba.serve.Goals as goal

pub returns-clause-ok : goal.returns-clause-ok
returns-clause-ok g c =
    serves_whole c.args.self.now c.fail_marked.new.self c.complete.new.self c.args.slot (c.in_ok-fail_marked.ensures.free c.if-branch.false)
    (c.in_ok-fail_marked.ensures.same c.if-branch.false) c.complete.ensures
