use Rattle.std.proofs.Common.{subst, sym, ◌∙◌}
use Rattle.ahci_port.specs.PortView.{sectors_in}
use Rattle.ncq_journal.specs.History.{history_of}
use Rattle.ncq_journal.specs.Lawful.{IsLawful}
use Rattle.ahci_jobs.proofs.ScriptLemmas.{told_script}
use Rattle.ahci_jobs.proofs.script.script.Goals as goal

pub push_entries-requires : goal.push_entries-requires
push_entries-requires g c =
    let depth = c.args.port.now.depth in
    let sectors = sectors_in c.args.port.now in
    let events = history_of c.entries-events.result.now in
    let past = c.entries-events.ensures ∙ c.journal-journal.ensures.past in (
      depth,
      subst (λ s. IsLawful s depth events) (sym c.sectors-sectors.ensures) (subst (λ l. IsLawful sectors depth l) (sym past) c.journal-journal.ensures.headline.lawful),
    )

pub returns : goal.returns
returns g c =
    c.into_bytes.ensures
    ∙ told_script c.args.port.now _ _ _ _ _ _ c.new-text.ensures c.in_ok-push_disk.ensures c.in_ok-push_entries.ensures c.sectors-sectors.ensures c.depth.ensures
    (c.entries-events.ensures ∙ c.journal-journal.ensures.past)
