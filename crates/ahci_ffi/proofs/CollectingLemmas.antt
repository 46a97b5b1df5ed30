-- What a request that is taken has: the length of its window's text, and that it is done.
use Rattle.std.proofs.Common.{◌≡◌, ℕ, ap, sym, refl, subst, Option, None, Some}
use Rattle.std.specs.Option.{unwrap_or}
use Rattle.ncq_journal.specs.declared.outcome.Outcome.{Outcome}
use Rattle.ncq_journal.specs.declared.outcome.Outcome.TheVariants as outcome
use Rattle.ncq_journal.specs.Answer.{Answer}
use Rattle.ahci_table.specs.Window.{WindowState}
use Rattle.ahci_port.specs.Faults.{collect_refusal}
use Rattle.ahci_port.specs.Headline.{Headline}
use Rattle.ahci_port.specs.Looking.{read_length}
use Rattle.ahci_port.specs.PortView.{PortView, window_at}
use Rattle.ahci_port.specs.Steps.{answer_to}
use Rattle.ahci_port.proofs.TextLengthLemmas.{reads_text}
use Rattle.ahci_ffi.specs.Done.{HasLength}
use Rattle.ahci_ffi.specs.Told.{Told}
use Rattle.ahci_ffi.specs.declared.status.Status.{Status}
use Rattle.ahci_ffi.specs.declared.status.Status.TheVariants as status

-- what a tag's request reads is as long as the text of its window, where it has ended as a read
pub text_read : (port : PortView) (tag number : ℕ) (w : WindowState) (a : Answer) → Headline port → collect_refusal port tag number ≡ None → answer_to port number ≡ Some a
    → window_at port tag ≡ Some w → HasLength a.outcome w (unwrap_or (read_length port.past tag) 0)
text_read port tag number w a h none e here = by a.outcome refl
  where
    by : (o : Outcome) → a.outcome ≡ o → HasLength o w (unwrap_or (read_length port.past tag) 0)
    by outcome.Read r = sym (ap (λ o. unwrap_or o 0) (reads_text port tag number w a h none e here r))
    by outcome.Wrote r = tt
    by (outcome.Failed error lba) r = tt

-- nothing refuses a call that is done
pub told_done : (reason : Option Status) (done same : Type 0) → reason ≡ None → done → Told status.Done reason done same
told_done reason done same none d = subst (λ r. Told status.Done r done same) (sym none) (refl, d)
