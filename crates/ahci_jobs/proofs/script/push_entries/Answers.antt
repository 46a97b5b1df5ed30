use Rattle.std.proofs.Common.{◌≡◌, ◌++◌, ◌∙◌, take, length, subst, append-nil, sym, arith}
use Rattle.std.specs.Prelude.{OnOk}
use Rattle.std.proofs.lemmas.List.{length-take-le}
use Rattle.ncq_journal.proofs.HistoryLemmas.{history_more, length_history}
use Rattle.ncq_journal.specs.Entry.{entry_of}
use Rattle.ncq_journal.specs.History.{history_of}
use Rattle.ahci_jobs.specs.Noted.{AreNoted}
use Rattle.ahci_jobs.specs.Scripts.{entry_line, issued_in}
use Rattle.ahci_jobs.proofs.NotedLemmas.{next_line}
use Rattle.ahci_jobs.proofs.ScriptLemmas.{proper_at}
use Rattle.ahci_jobs.proofs.script.push_entries.Goals as goal

pub loop-place-init : goal.loop-place-init
loop-place-init g c = record { told = sym (append-nil c.args.text.now.bytes); noted = c.nothing_kept-kept.ensures c.args.sectors }

pub loop-place-preserved : goal.loop-place-preserved
loop-place-preserved g c =
    let sectors = c.args.sectors in
    let events = c.args.events.now in
    let i = c.loop-place.place in
    let past = history_of (take i events) in
    let low = c.loop-place-test.true in
    let it = c.index-events-place in
    let told = subst (λ r. OnOk r (c.push_entry.new.text.bytes ≡ c.loop-place.text.bytes ++ entry_line (issued_in sectors past) (entry_of it.result))) c.in_ok-push_entry.was
    (c.push_entry.ensures sectors past c.loop-place.invariant.noted) in
    let count : length past ≡ i = length_history (take i events) ∙ length-take-le i events (omega (arith, low)) in
    record {
      told = next_line sectors c.args.text.now.bytes c.loop-place.text.bytes c.push_entry.new.text.bytes c.push.new.self.bytes events i it.result low it.is
          c.loop-place.invariant.told told c.in_ok-push.ensures.ok;
      noted = subst (λ p. AreNoted sectors p c.note.new.kept) (sym (history_more events i it.result low it.is)) (c.note.ensures past count c.loop-place.invariant.noted);
    }

pub push_entry-requires : goal.push_entry-requires
push_entry-requires g c =
    let it = c.index-events-place in
    proper_at c.args.sectors c.requires.0 c.args.events.now c.loop-place.place it.result c.loop-place-test.true it.is c.requires.1
