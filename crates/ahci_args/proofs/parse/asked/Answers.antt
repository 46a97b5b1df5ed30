use Rattle.std.proofs.Common.{◌≡◌, Err, map, rules}
use Rattle.std.specs.String.{string_bytes}
use Rattle.clap.specs.Words.{FailsBy, found_of, rows_of}
use Rattle.ahci_args.specs.Usage.{usage_faults}
use Rattle.ahci_args.proofs.AskedLemmas.{IsMet, all_asked, asks_memory, known_faults, met, not_unnamed, some_picks, value_fails}
use Rattle.ahci_args.proofs.parse.asked.Goals as goal
use Rattle.ahci_args.proofs.parse.asked.Goals.{In-Some, In_err-matches}

pub returns-in_err-ahci_command-clause-faults : goal.returns-in_err-ahci_command-clause-faults
returns-in_err-ahci_command-clause-faults c = (some_picks, search rules)

-- words with a fault
faults : (c : In_err-matches) → FailsBy (usage_faults c.in_ok-ahci_command.ensures.ok.0 (map string_bytes c.args.words.now)) c.try_get_matches_from.result
faults c =
    let app = c.in_ok-ahci_command.ensures.ok in
    let failed : c.try_get_matches_from.result ≡ Err c.in_err-matches.field-0.0 = search rules in
    known_faults app.0 (map string_bytes c.args.words.now) c.try_get_matches_from.result app.1 failed c.try_get_matches_from.ensures.kinds

pub returns-in_err-matches-clause-memory : goal.returns-in_err-matches-clause-memory
returns-in_err-matches-clause-memory c =
    let known = faults (goal.at.returns-in_err-matches-clause-memory c).In_err-matches in
    asks_memory c.in_ok-ahci_command.ensures.ok.0 c.from_residual-in_err-matches.result (map string_bytes c.args.words.now) (search rules)

pub returns-in_err-matches-clause-faults : goal.returns-in_err-matches-clause-faults
returns-in_err-matches-clause-faults c =
    let known = faults (goal.at.returns-in_err-matches-clause-faults c).In_err-matches in
    (c.in_ok-ahci_command.ensures.ok.0, search rules)

-- words that the parser takes
is_met : (c : In-Some) → IsMet c.in_ok-ahci_command.ensures.ok.0 (map string_bytes c.args.words.now) c.in-Some.name.now (rows_of (found_of c.in-Some.options.now))
is_met c =
    met c.in_ok-ahci_command.ensures.ok.0 (map string_bytes c.args.words.now) c.in_ok-matches.matches c.in_ok-ahci_command.ensures.ok.1 c.in_ok-matches.ensures.kinds
    c.in_ok-matches.ensures.matches c.in-Some.name.now (rows_of (found_of c.in-Some.options.now)) c.in-Some.ensures.name c.in-Some.ensures.rows

pub subcommand_asked-requires : goal.subcommand_asked-requires
subcommand_asked-requires c = (is_met c).takes

pub returns : goal.returns
returns c =
    let is = is_met (goal.at.returns c).In-Some in
    let picks = c.in_ok-ahci_command.ensures.ok.0 in
    let fails = value_fails is c.subcommand_asked.result c.subcommand_asked.ensures.faults in
    record {
      ok = all_asked is c.subcommand_asked.result c.subcommand_asked.ensures.ok;
      memory = asks_memory picks c.subcommand_asked.result (map string_bytes c.args.words.now) fails;
      faults = (picks, fails);
    }

pub unreachable-requires : goal.unreachable-requires
unreachable-requires c =
    not_unnamed c.in_ok-ahci_command.ensures.ok.0 (map string_bytes c.args.words.now) c.in_ok-matches.matches c.in_ok-ahci_command.ensures.ok.1 c.in_ok-matches.ensures.kinds
    c.in_ok-matches.ensures.matches c.in-None.ensures.name
