use Rattle.std.proofs.Common.{ap, ◌∙◌}
use Rattle.hba_command.specs.Words.{with_word}
use Rattle.hba_command.proofs.disk_pages.smart_data.Goals as goal

pub returns : goal.returns
returns c =
    c.put_word-6.ensures ∙ ap (λ p. with_word 186 257 p) (
    c.put_word-5.ensures ∙ ap (λ p. with_word 185 1 p) (
    c.put_word-4.ensures ∙ ap (λ p. with_word 184 3 p) (
    c.put_word-3.ensures ∙ ap (λ p. with_word 183 4352 p) (
    c.put_word-2.ensures ∙ ap (λ p. with_word 181 2 p) c.put_word.ensures))))
