use Rattle.std.proofs.Common.{◌∙◌, ap, length-set, set, arith}
use Rattle.std.specs.Prelude.{slice_index_or}
use Rattle.std.proofs.lemmas.List.Edits.{fill_by_more}
use Rattle.std.proofs.lemmas.List.FromFn.{fill_by_all}
use Rattle.ahci_draw.specs.Tags.{tag_in, tags_of, unused}
use Rattle.ahci_draw.proofs.tags.tags_in.Goals as goal

pub loop-tag-preserved : goal.loop-tag-preserved
loop-tag-preserved g c = record {
  count = length-set c.loop-tag.tags c.loop-tag.tag c.tag_in.result ∙ c.loop-tag.invariant.count;
  stand = λ t low.
      ap (λ p. slice_index_or (set c.loop-tag.tags c.loop-tag.tag p) t unused) c.tag_in.ensures
      ∙ fill_by_more (tag_in c.args.port.now) c.loop-tag.tags c.loop-tag.tag unused (let n = c.loop-tag.invariant.count in omega arith) c.loop-tag.invariant.stand t low;
}

pub returns : goal.returns
unfolding tags_of
returns g c = fill_by_all (tag_in c.args.port.now) _ 32 unused c.loop-tag.invariant.count (λ k low. c.loop-tag.invariant.stand k (omega arith))
