-- How long the text of a finished read is.
use Rattle.std.proofs.Common.{◌≡◌, ℕ, true, length, ap, sym, refl, ◌∙◌, None, Some}
use Rattle.std.proofs.lemmas.Bool.{eqb-true}
use Rattle.ncq_journal.specs.declared.outcome.Outcome.{Outcome}
use Rattle.ncq_journal.specs.declared.outcome.Outcome.TheVariants as outcome
use Rattle.ncq_journal.specs.Answer.{Answer}
use Rattle.ahci_table.specs.Text.{text}
use Rattle.ahci_table.specs.Window.{WindowState}
use Rattle.ahci_port.specs.Faults.{collect_refusal}
use Rattle.ahci_port.specs.Headline.{Headline}
use Rattle.ahci_port.specs.Looking.{read_length}
use Rattle.ahci_port.specs.PortView.{PortView, window_at}
use Rattle.ahci_port.specs.Steps.{answer_to}
use Rattle.ahci_port.proofs.TextLengthLemmas.{reads_text}
use Rattle.ahci_driver.specs.Tickets.{has_length, is_as_long}

-- the text of a finished read has the length of a buffer as long as it
pub text_length : (port : PortView) (tag number n : ℕ) (w : WindowState) (a : Answer) → Headline port → collect_refusal port tag number ≡ None
    → answer_to port number ≡ Some a → window_at port tag ≡ Some w → is_as_long (read_length port.past tag) n ≡ true → has_length a.outcome w n
text_length port tag number n w a h none e here fits = by a.outcome refl
  where
    by : (o : Outcome) → a.outcome ≡ o → has_length o w n
    by outcome.Read r = eqb-true (length (text w)) n (sym (ap (λ o. is_as_long o n) (reads_text port tag number w a h none e here r)) ∙ fits)
    by outcome.Wrote r = tt
    by (outcome.Failed error lba) r = tt
