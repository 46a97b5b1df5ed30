use Rattle.ahci_trace.proofs.LineLemmas.{keeps_answers}
use Rattle.ahci_trace.proofs.laws.a_trace_without_its_notes_is_the_answers.Goals as goal

pub returns : goal.returns
returns c = keeps_answers
