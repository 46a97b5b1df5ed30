-- A command with arguments that are added in turn.
use Rattle.std.proofs.Common.{◌≡◌, ◌∙◌, false, refl, List, [], ◌∷◌, ap, map, sym}
use Rattle.std.specs.Prelude.{Result, Ok, Err, IfOk, fold}
use Rattle.clap.specs.Words.{AddsArg, AddsInTurn, App, Text, app_of, new_app, rule_of, with_rule}
use Rattle.clap.specs.declared.builder.arg.Arg.{Arg}
use Rattle.clap.specs.declared.builder.command.Command.{Command}
use Rattle.clap.specs.declared.builder.command.Command.TheViews.{out-Command}
use Rattle.ahci_args.specs.CommandLine.{AreLocal, IsSubcommand, with_options}

in_turn : (args : List Arg) (old new : Command) → AreLocal args → (out-Command old).has_globals ≡ false → AddsInTurn AddsArg old args new
    → (app_of new ≡ fold with_rule (app_of old) (map rule_of args)) × ((out-Command new).has_globals ≡ false)
in_turn [] old new local none is = (ap app_of (sym is), ap (λ (c : Command). (out-Command c).has_globals) (sym is) ∙ none)
in_turn (a ∷ rest) old new local none is =
    let step = is.1 in
    let more = in_turn rest is.0 new local.1 (step.globals ∙ rw (none, local.0) refl) is.2 in
    (more.0 ∙ ap (λ (x : App). fold with_rule x (map rule_of rest)) (step.shape local.0), more.1)

pub with_args : {E : Type 0} (r : Result Command E) (args : List Arg) (old : Command) (name : Text) → AreLocal args → app_of old ≡ new_app name
    → (out-Command old).has_globals ≡ false → IfOk r (AddsInTurn AddsArg old args) → IfOk r (IsSubcommand (with_options name (map rule_of args)))
with_args (Ok c) args old name local empty none added =
    let is = in_turn args old c local none added in
    (ap (λ (a : App). a.top) (is.0 ∙ ap (λ (x : App). fold with_rule x (map rule_of args)) empty), is.1)
with_args (Err e) args old name local empty none added = tt
