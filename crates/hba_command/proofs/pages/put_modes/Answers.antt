use Rattle.std.proofs.Common.{ap, ◌∙◌}
use Rattle.hba_command.specs.Pages.{multiword_word, ultra_word, with_cycle_times}
use Rattle.hba_command.specs.Words.{with_word}
use Rattle.hba_command.proofs.pages.put_modes.Goals as goal

pub returns : goal.returns
returns c =
    c.put_word-4.ensures
    ∙ ap (λ n. with_word 88 n c.put_cycle_times.new.page) c.ultra_word.ensures
    ∙ ap (λ p. with_word 88 (ultra_word c.args.device.now.dma_mode) p) (
    c.put_cycle_times.ensures ∙ ap (λ p. with_cycle_times p) (
    c.put_word-3.ensures ∙ ap (λ p. with_word 64 3 p) (
    c.put_word-2.ensures
    ∙ ap (λ n. with_word 63 n c.put_word.new.page) c.multiword_word.ensures
    ∙ ap (λ p. with_word 63 (multiword_word c.args.device.now.dma_mode) p) c.put_word.ensures)))
