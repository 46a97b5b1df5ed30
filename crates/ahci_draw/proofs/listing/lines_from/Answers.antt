use Rattle.std.proofs.Common.{◌∙◌, ◌==◌, ap, rules}
use Rattle.std.proofs.lemmas.Iterator.Consumers.{YieldsList-from_filter, map_from_collect}
use Rattle.std.proofs.lemmas.Iterator.Splits.{YieldsList-from_slice_split}
use Rattle.std.specs.Slice.Iter.{split_callee, split_done, split_rest}
use borrow.Author.Tests.{tests}
use Rattle.ahci_draw.specs.Lines.{is_asked}
use Rattle.ahci_draw.proofs.listing.lines_from.Goals as goal

pub returns : goal.returns
returns g c =
    map_from_collect _ c.collect.ensures.ran
    (YieldsList-from_filter _ (is_asked c.args.from c.args.to)
    (YieldsList-from_slice_split _ (λ byte. byte == 10) c.args.listing.now (ap split_rest c.filter.ensures.source ∙ c.split.ensures.rest)
    (ap split_done c.filter.ensures.source ∙ c.split.ensures.done) (ap split_callee c.filter.ensures.source ∙ c.split.ensures.closure)
    (λ x r q k. search (rules, tests)))
    c.filter.ensures.closure (λ x r q k. search (rules, tests)))
