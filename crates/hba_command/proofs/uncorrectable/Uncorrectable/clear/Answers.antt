-- What is kept of the list.
use Rattle.std.proofs.Common.{rules, ap, ◌∙◌}
use Rattle.arrayvec.proofs.ArrayVecLemmas.{filter-from_retain}
use Rattle.hba_command.specs.Uncorrectable.{without}
use Rattle.hba_command.proofs.uncorrectable.Uncorrectable.clear.Goals as goal

pub returns : goal.returns
returns c = filter-from_retain _ _ _ (λ x b f' y called. search rules) _ _ c.retain.ensures.filtered ∙ ap (without c.args.first c.args.sectors) c.self.view_is
