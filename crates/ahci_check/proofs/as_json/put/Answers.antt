use Rattle.std.proofs.Common.{ap, refl}
use Rattle.json.specs.Token.{string}
use Rattle.streams.proofs.FoundLemmas.{on_ok_from}
use Rattle.ahci_check.specs.Json.{complaint_object}
use Rattle.ahci_check.proofs.JsonLemmas.{grown}
use Rattle.ahci_check.proofs.as_json.put.Goals as goal

pub returns-clause-tokens : goal.returns-clause-tokens
unfolding complaint_object
returns-clause-tokens g c =
    let begun = grown _ _ _ _ _ c.requires.nothing c.in_ok-begin_object.ensures.ok refl in
    let line = grown _ _ _ _ _ (grown _ _ _ _ _ begun c.in_ok-key.ensures.ok refl) c.in_ok-u64.ensures.ok refl in
    let column = grown _ _ _ _ _ (grown _ _ _ _ _ line c.in_ok-key-2.ensures.ok refl) c.in_ok-put_column.ensures.tokens refl in
    let kind = grown _ _ _ _ _ (grown _ _ _ _ _ column c.in_ok-key-3.ensures.ok refl) c.in_ok-string.ensures.ok (ap string c.kind_name.ensures) in
    let rule = grown _ _ _ _ _ (grown _ _ _ _ _ kind c.in_ok-key-4.ensures.ok refl) c.in_ok-string-2.ensures.ok (ap string c.rule_name.ensures) in
    let text = grown _ _ _ _ _ (grown _ _ _ _ _ rule c.in_ok-key-5.ensures.ok refl) c.in_ok-string-3.ensures.ok (ap string c.requires.text) in
    on_ok_from c.end_object.result _ _ c.end_object.ensures.ok (λ last. grown _ _ _ _ _ text last refl)
