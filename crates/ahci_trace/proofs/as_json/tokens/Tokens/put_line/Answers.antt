use Rattle.std.proofs.Common.{◌++◌, ◌∙◌, ap, append_assoc, codes}
use Rattle.streams.proofs.FoundLemmas.{on_ok_from}
use Rattle.ahci_trace.specs.Json.{number_member, text_member}
use Rattle.ahci_trace.proofs.as_json.tokens.Tokens.put_line.Goals as goal

pub returns : goal.returns
returns g c =
    let text = text_member (codes "command") c.ascii.result.now in
    on_ok_from c.put-2.result _ _ c.put-2.ensures
    (λ last. last ∙ ap (λ t. t ++ text) c.in_ok-put.ensures ∙ append_assoc _ (number_member (codes "line") c.args.number) text
    ∙ ap (λ t. c.args.self.now ++ (number_member (codes "line") c.args.number ++ text_member (codes "command") t)) (c.ascii.ensures ∙ c.deref.ensures.value ∙ c.in_ok-text.ensures))
