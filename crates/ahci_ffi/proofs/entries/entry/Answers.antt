use Rattle.std.proofs.Common.{ap, subst, sym, ◌∙◌}
use Rattle.std.specs.Option.{option_copied, option_map}
use Rattle.ahci_port.specs.PortView.{sectors_in}
use Rattle.ncq_journal.specs.Entry.{entry_of}
use Rattle.ncq_journal.specs.Lawful.{IsLawful}
use Rattle.ahci_ffi.proofs.EntryLemmas.{entry_is_proper}
use Rattle.ahci_ffi.proofs.entries.entry.Goals as goal

pub flat_entry-requires : goal.flat_entry-requires
flat_entry-requires g c =
    let port = c.args.port.now in
    entry_is_proper (sectors_in port) port.depth c.journal.result.now.first c.args.number c.journal.result.now.past (entry_of c.in-Some.event.now)
    (subst (IsLawful (sectors_in port) port.depth) (sym c.journal.ensures.past) c.journal.ensures.headline.lawful)
    (sym c.get.ensures ∙ ap (λ o. option_map entry_of (option_copied o)) c.in-Some.is)
