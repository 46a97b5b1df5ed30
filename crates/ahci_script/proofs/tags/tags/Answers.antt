use Rattle.std.proofs.Common.{◌≡◌, Err, ◌-◌, ◌<◌, ◌≤◌, length, All, ap, sym, subst, ◌∙◌, arith}
use Rattle.std.proofs.lemmas.Bool.Decides.{nat_tests}
use Rattle.std.proofs.lemmas.List.Elements.{All-push}
use Rattle.ahci_script.specs.Lines.{more_tags, tags_of}
use Rattle.streams.proofs.FoundLemmas.{if_err_from}
use Rattle.ahci_script.proofs.TagsLemmas.{tags-broken, tags-done, tags-full, tags-next, tags-so_far}
use Rattle.ahci_script.proofs.tags.tags.Goals as goal

pub returns-then-is_full-clause-err : goal.returns-then-is_full-clause-err
returns-then-is_full-clause-err c =
    let tags = c.loop-text.tags.items in
    let full : 32 ≤ length tags = grind (arith, nat_tests, c.if-is_full.ensures.value) in
    tags-so_far c.args.words c.in_ok-tag.left c.loop-text.left c.in_ok-tag.tag _ c.push.new.self.items tags c.in_ok-tag.ensures.value c.new-tags.ensures c.push.ensures.items
    c.loop-text.invariant.3
    ∙ tags-full tags c.in-Some.text.now c.loop-text.left c.in-Some.ensures full ∙ ap Err (sym c.at.ensures)

pub returns-in_err-tag-2-clause-err : goal.returns-in_err-tag-2-clause-err
returns-in_err-tag-2-clause-err c =
    let tags = c.loop-text.tags.items in
    let few : length tags < 32 = grind (arith, nat_tests, c.if-is_full.ensures.value, c.loop-text.invariant.1) in
    if_err_from _ c.in_err-tag-2.field-0.0 (λ breach. tags_of c.args.words ≡ Err breach) c.from_residual-in_err-tag-2.ensures.1
    (tags-so_far c.args.words c.in_ok-tag.left c.loop-text.left c.in_ok-tag.tag _ c.push.new.self.items tags c.in_ok-tag.ensures.value c.new-tags.ensures c.push.ensures.items
    c.loop-text.invariant.3
    ∙ tags-broken tags c.in-Some.text.now c.loop-text.left c.in_err-tag-2.field-0.0 c.in-Some.ensures few c.in_err-tag-2.ensures.value)

pub loop-text-preserved : goal.loop-text-preserved
loop-text-preserved c =
    let tags = c.loop-text.tags.items in
    let few : length tags < 32 = grind (arith, nat_tests, c.if-is_full.ensures.value, c.loop-text.invariant.1) in
    let t = c.in_ok-tag-2.tag in
    let more = c.push-in-Some.ensures.items in
    let next = tags-next tags c.in-Some.text.now c.loop-text.left t c.in_ok-tag-2.others c.in-Some.ensures few c.in_ok-tag-2.ensures.value in (
      omega (arith, c.push-in-Some.ensures.len),
      omega (arith, c.push-in-Some.ensures.len, few),
      subst (All (λ t. t < 32)) (sym more) (All-push (λ t. t < 32) tags t c.loop-text.invariant.2 c.in_ok-tag-2.ensures.small),
      ap (λ l. more_tags (32 - length l) l c.in_ok-tag-2.others) more ∙ sym next ∙ c.loop-text.invariant.3,
    )

pub returns-clause-ok : goal.returns-clause-ok
returns-clause-ok c =
    let tags = c.loop-text.tags.items in
    tags-so_far c.args.words c.in_ok-tag.left c.loop-text.left c.in_ok-tag.tag _ c.push.new.self.items tags c.in_ok-tag.ensures.value c.new-tags.ensures c.push.ensures.items
    c.loop-text.invariant.3
    ∙ tags-done (32 - length tags) tags c.loop-text.left c.in_default.ensures
