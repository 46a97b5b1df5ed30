use Rattle.std.proofs.Common.{rules}
use Rattle.ahci_args.proofs.CommandLemmas.{with_args}
use Rattle.ahci_args.proofs.command.subcommand.Goals as goal

pub returns : goal.returns
returns c = with_args c.args-2.result c.args.options.items c.after_help.result c.args.name.now c.requires (search rules) (search rules) c.args-2.ensures
