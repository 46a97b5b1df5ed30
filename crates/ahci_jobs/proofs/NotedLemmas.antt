-- Lemmas about a journal as a script.
use Rattle.std.proofs.Common.{◌≡◌, ℕ, ◌+◌, ◌<◌, List, [], ◌∷◌, ◌++◌, length, take, get_or, sym, ap, ◌∙◌, append_assoc}
use Rattle.ncq_journal.proofs.HistoryLemmas.{history_more}
use Rattle.ncq_journal.specs.Entry.{entry_of}
use Rattle.ncq_journal.specs.History.{history_of}
use Rattle.ncq_journal.specs.declared.event.Event.{Event}
use Rattle.ahci_jobs.specs.Scripts.{entry_line, entry_lines, issued_in}

-- one command more
pub next_line : {A : _} (sectors : ℕ) (old text line new : List ℕ) (events : List (Event A)) (i : ℕ) (event : Event A) → i < length events → event ≡ get_or events i event
    → text ≡ old ++ entry_lines sectors (history_of (take i events))
    → line ≡ text ++ entry_line (issued_in sectors (history_of (take i events))) (entry_of event) → new ≡ line ++ 10 ∷ []
    → new ≡ old ++ entry_lines sectors (history_of (take (i + 1) events))
next_line sectors old text line new events i event low is so_far told fed =
    let past = history_of (take i events) in
    let words = entry_line (issued_in sectors past) (entry_of event) in
    fed ∙ ap (λ t. t ++ 10 ∷ []) told ∙ append_assoc text words (10 ∷ []) ∙ ap (λ t. t ++ (words ++ 10 ∷ [])) so_far
    ∙ append_assoc old (entry_lines sectors past) (words ++ 10 ∷ []) ∙ ap (λ l. old ++ entry_lines sectors l) (sym (history_more events i event low is))
