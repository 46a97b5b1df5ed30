use Rattle.std.proofs.Common.{◌∙◌, ap₂}
use Rattle.clap.specs.Words.{with_subcommand}
use Rattle.ahci_args.proofs.command.ahci_command.Goals as goal

pub returns-clause-ok : goal.returns-clause-ok
returns-clause-ok c =
    let run = c.in_ok-run_command.ensures in
    let one = c.in_ok-subcommand.ensures.shape c.in_ok-replay_command.ensures.1 ∙ ap₂ with_subcommand c.in_ok-top_command.ensures.ok c.in_ok-replay_command.ensures.0 in
    let two = c.in_ok-subcommand-2.ensures.shape c.in_ok-trace_command.ensures.1 ∙ ap₂ with_subcommand one c.in_ok-trace_command.ensures.0 in
    let three = c.in_ok-subcommand-3.ensures.shape c.in_ok-check_command.ensures.1 ∙ ap₂ with_subcommand two c.in_ok-check_command.ensures.0 in
    let four = c.in_ok-subcommand-4.ensures.shape c.in_ok-draw_command.ensures.1 ∙ ap₂ with_subcommand three c.in_ok-draw_command.ensures.0 in
    let five = c.in_ok-subcommand-5.ensures.shape run.1.1 ∙ ap₂ with_subcommand four run.1.0 in
    let six = c.in_ok-subcommand-6.ensures.shape c.in_ok-identify_command.ensures.1 ∙ ap₂ with_subcommand five c.in_ok-identify_command.ensures.0 in
    (run.0, c.in_ok-ahci.ensures.shape c.in_ok-log_command.ensures.1 ∙ ap₂ with_subcommand six c.in_ok-log_command.ensures.0)
