use Rattle.std.proofs.Common.{ap, ◌∙◌}
use Rattle.hba_command.specs.Pages.{with_capabilities, with_commands, with_enabled, with_identity, with_modes, with_name, with_supported}
use Rattle.hba_command.specs.WideName.{wide_name}
use Rattle.hba_command.proofs.pages.controller_page.Goals as goal

pub returns : goal.returns
returns c =
    c.put_name.ensures ∙ ap (λ p. with_name (wide_name c.args.device.now.identity) p) (
    c.put_commands.ensures ∙ ap (λ p. with_commands c.args.device.now p) (
    c.put_enabled.ensures ∙ ap (λ p. with_enabled c.args.device.now p) (
    c.put_supported.ensures ∙ ap (λ p. with_supported c.args.device.now p) (
    c.put_modes.ensures ∙ ap (λ p. with_modes c.args.device.now p) (
    c.put_capabilities.ensures ∙ ap (λ p. with_capabilities c.args.device.now p) (
    c.put_identity.ensures ∙ ap (λ p. with_identity c.args.device.now.identity p) c.identify_page-page.ensures))))))
