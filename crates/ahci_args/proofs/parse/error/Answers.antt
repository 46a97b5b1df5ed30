use Rattle.std.proofs.Common.{◌≡◌, ◌∙◌, None, Some, ap, codes, option_map, rules, sym}
use Rattle.std.specs.Borrow.{Bor}
use Rattle.std.specs.Prelude.{option_and_then}
use Rattle.clap.specs.Words.{Text, first_of, found_of, rows_of}
use Rattle.clap.proofs.WalkLemmas.{first_value-rows}
use Rattle.ahci_args.specs.Usage.{hex_byte}
use Rattle.ahci_args.proofs.parse.error.Goals as goal

pub returns-in_err-get_str : goal.returns-in_err-get_str
returns-in_err-get_str c =
    let found = found_of c.args.options.now in
    let was : c.get_str.result ≡ None = search rules in
    let none : first_of (codes "error") (rows_of found) ≡ None =
    sym (first_value-rows found (codes "error")) ∙ (sym c.get_str.ensures ∙ ap (option_map (λ (s : Bor Text). s.now)) was) in
    let result : c.from_residual.result ≡ None = search rules in
    result ∙ sym (ap (option_and_then hex_byte) none)

pub returns : goal.returns
returns c =
    let found = found_of c.args.options.now in
    let was : c.get_str.result ≡ Some c.in_ok-get_str.field-0 = search rules in
    let some : first_of (codes "error") (rows_of found) ≡ Some c.in_ok-get_str.field-0.now =
    sym (first_value-rows found (codes "error")) ∙ (sym c.get_str.ensures ∙ ap (option_map (λ (s : Bor Text). s.now)) was) in
    c.hex_byte.ensures ∙ sym (ap (option_and_then hex_byte) some)
