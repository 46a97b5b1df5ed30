use Rattle.std.proofs.Common.{ap, ◌∙◌}
use Rattle.hba_command.specs.IdentifyLog.{with_wide_name}
use Rattle.hba_command.specs.WideName.{wide_name}
use Rattle.hba_command.specs.Words.{with_word}
use Rattle.hba_command.proofs.identify_log.put_device.Goals as goal

pub returns : goal.returns
returns c =
    c.put_word-4.ensures ∙ ap (λ p. with_word 39 32768 p) (
    c.put_word-3.ensures ∙ ap (λ p. with_word 36 1 p) (
    c.put_wide_name.ensures ∙ ap (λ p. with_wide_name (wide_name c.args.identity.now) p) (
    c.put_word-2.ensures ∙ ap (λ p. with_word 15 32768 p) c.put_word.ensures)))
