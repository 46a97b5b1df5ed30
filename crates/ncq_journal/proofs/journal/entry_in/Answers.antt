use Rattle.std.proofs.Common.{ap, sym, ◌∙◌}
use Rattle.std.specs.Option.{option_map}
use Rattle.ncq_journal.specs.Entry.{entry_of}
use Rattle.ncq_journal.proofs.HistoryLemmas.{entry_at-history, copied_get}
use Rattle.ncq_journal.proofs.journal.entry_in.Goals as goal

pub returns : goal.returns
returns g c =
    ap (option_map entry_of) (copied_get c.args.events.now c.args.place c.get.result c.get.ensures.lookup)
    ∙ sym (entry_at-history c.args.events.now c.args.place)
