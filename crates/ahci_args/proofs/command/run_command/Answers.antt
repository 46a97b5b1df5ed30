use Rattle.ahci_args.proofs.command.run_command.Goals as goal

pub returns : goal.returns
returns c =
    let pick = c.pick_option.ensures.rule in
    (pick.0, rw (c.in_ok-options.ensures.items, c.number_option.ensures.rule, c.number_option-2.ensures.rule, c.number_option-3.ensures.rule, pick.1, c.flag.ensures.rule, c.flag-2.ensures.rule, c.flag-3.ensures.rule) at c.subcommand.ensures)
