use Rattle.std.proofs.Common.{◌≡◌, ℕ, None, get_or, ap, ◌∙◌, arith}
use Rattle.std.specs.Option.{is_some}
use Rattle.ncq_core.specs.DiskState.{outstanding}
use Rattle.ncq_journal.proofs.SetLemmas.{among, among_all}
use Rattle.ncq_core.proofs.DiskLemmas.{places-commands}
use Rattle.ncq_core.proofs.disk.Disk.tags.Goals as goal

pub returns : goal.returns
returns g c =
    let commands = c.self.inside.commands in
    let p = λ (t : ℕ). is_some (get_or commands t None) in
    let all : c.loop-tag.tag ≡ 32 = omega arith in
    c.loop-tag.invariant ∙ ap (among p) all ∙ among_all p ∙ places-commands commands c.self.invariant.0.count ∙ ap outstanding c.self.view_is
