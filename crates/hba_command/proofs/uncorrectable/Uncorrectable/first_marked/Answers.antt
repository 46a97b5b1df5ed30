-- The least of the marks in a range is in it.
use Rattle.std.proofs.Common.{◌≤◌, ◌<◌, ◌+◌, IfSome, subst, sym}
use Rattle.hba_command.proofs.UncorrectableLemmas.{first_is_among}
use Rattle.hba_command.proofs.uncorrectable.Uncorrectable.first_marked.Goals as goal

pub returns-clause-among : goal.returns-clause-among
returns-clause-among c =
    subst (λ o. IfSome o (λ lba. (c.args.first ≤ lba) × (lba < c.args.first + c.args.sectors))) (sym c.least.ensures)
    (first_is_among c.args.first c.args.sectors c.args.self.now)
