use Rattle.std.proofs.Common.{arith, ap, ◌∙◌}
use Rattle.std.specs.Option.{unwrap_or}
use Rattle.ahci_port.specs.PortView.{owner_of}
use Rattle.ncq_journal.proofs.FilledLemmas.{one_more}
use Rattle.ahci_ffi.proofs.port_state.numbers_of.Goals as goal

pub loop-tag-preserved : goal.loop-tag-preserved
loop-tag-preserved g c =
    one_more 0 (λ tag. unwrap_or (owner_of c.args.port.now tag) 0) c.loop-tag.numbers c.loop-tag.tag c.from.result c.unwrap_or.result c.from.ensures (omega arith) c.loop-tag.invariant
    (c.unwrap_or.ensures ∙ ap (λ o. unwrap_or o 0) c.owner.ensures)
