use Rattle.std.proofs.Common.{rules, ◌≡◌, Some}
use Rattle.clap.specs.Words.{rule_of}
use Rattle.clap.specs.declared.builder.value_parser.ValueParser.TheVariants.{Names}
use Rattle.ahci_args.specs.CommandLine.{PickWords, pick_option}
use Rattle.ahci_args.proofs.command.pick_option.Goals as goal

pub returns-clause-rule : goal.returns-clause-rule
returns-clause-rule c =
    let picks : PickWords = record { words = c.as_slice.result; are = search rules } in
    let parser : c.value_parser.result.value_parser ≡ Some (Names picks.words) = rw (← c.value_parser.ensures.given.2) c.value_parser.ensures.given.1 in
    let is : rule_of c.help.result ≡ pick_option picks = search rules in
    (picks, is)
