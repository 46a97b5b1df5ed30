use Rattle.std.proofs.Common.{◌∷◌, ◌++◌, ◌∙◌, codes, ap}
use Rattle.ahci_regs.specs.RegisterTable.{name_of}
use Rattle.streams.specs.Text.{hex_of}
use Rattle.json.specs.Token.{key}
use Rattle.streams.proofs.FoundLemmas.{on_ok_from}
use Rattle.ahci_trace.specs.Json.{change_object, text_member, value_token}
use Rattle.ahci_trace.proofs.TextLemmas.{four_parts, part_is}
use Rattle.ahci_trace.proofs.as_json.parts.ChangeItem.put.Goals as goal

pub returns : goal.returns
unfolding change_object
returns g c =
    let change = c.args.self.now in
    let word = text_member (codes "word") (hex_of 8 change.word) in
    let members =
    part_is _ c.in_ok-put_each.ensures
    (ap (λ n. text_member (codes "name") n ++ (key (codes "before") ∷ value_token c.word_before.result ∷ word)) c.name.ensures
    ∙ ap (λ v. text_member (codes "name") (name_of change.register) ++ (key (codes "before") ∷ v ∷ word)) c.word_before.ensures) in
    on_ok_from c.add-2.result _ _ c.add-2.ensures
    (λ last. four_parts c.args.tokens.now _ _ _ _ _ _ _ _ c.in_ok-add.ensures members c.in_ok-put_bits.ensures last)
