use Rattle.ahci_trace.proofs.ObjectLemmas.{has_objects}
use Rattle.ahci_trace.proofs.laws.each_object_has_its_answer.Goals as goal

pub returns : goal.returns
returns c = has_objects
