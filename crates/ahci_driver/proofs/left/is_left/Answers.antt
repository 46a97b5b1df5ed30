use Rattle.std.proofs.Common.{◌∙◌}
use Rattle.ahci_driver.proofs.LeavingLemmas.{left_if_free, not_left}
use Rattle.ahci_driver.proofs.left.is_left.Goals as goal

pub returns-then-are_queued : goal.returns-then-are_queued
returns-then-are_queued g c =
    left_if_free c.args.port.now c.entries.result.now c.are_queued.result c.is_all_free.result (c.entries.ensures ∙ c.journal.ensures.past) c.are_queued.ensures
    c.if-are_queued.true c.is_all_free.ensures

pub returns-else-are_queued : goal.returns-else-are_queued
returns-else-are_queued g c =
    not_left c.args.port.now c.entries.result.now c.are_queued.result (c.entries.ensures ∙ c.journal.ensures.past) c.are_queued.ensures c.if-are_queued.false
