-- One page more.
use Rattle.std.proofs.Common.{◌∙◌, [], ◌∷◌, ◌++◌, ap, sym}
use Rattle.std.proofs.lemmas.List.{append_assoc}
use Rattle.hba_command.specs.HostLogs.{pages_of}
use Rattle.hba_command.proofs.HostLogLemmas.{one_page_written}
use Rattle.hba_command.proofs.host_logs.append.Goals as goal

pub loop-index-preserved : goal.loop-index-preserved
loop-index-preserved g c =
    let before = c.args.written.now.items in
    let so_far = pages_of c.args.pages.now c.args.bytes.now c.loop-index.index in
    c.in_ok-push.ensures.items
    ∙ ap (λ l. l ++ c.page_of.result ∷ []) c.loop-index.invariant
    ∙ append_assoc before so_far (c.page_of.result ∷ [])
    ∙ ap (λ p. before ++ (so_far ++ p ∷ [])) c.page_of.ensures
    ∙ ap (λ l. before ++ l) (sym (one_page_written c.args.pages.now c.args.bytes.now c.loop-index.index))
