use Rattle.std.proofs.Common.{◌≡◌, ◌∙◌, ◌++◌, ap, length, map, sym, arith}
use Rattle.std.specs.Option.{option_to_list}
use Rattle.std.proofs.lemmas.List.{length-map}
use Rattle.ahci_driver.specs.Gathering.{left_in, receipts_in}
use Rattle.ahci_driver.specs.Sharing.{in_turn}
use Rattle.ahci_driver.proofs.SharingLemmas.{all_left, in_turn_more, next_job}
use Rattle.ahci_driver.proofs.GatheringLemmas.{one_for_each}
use Rattle.ahci_driver.proofs.gather.in_order.Goals as goal

pub loop-job-init : goal.loop-job-init
loop-job-init g c = record {
  replies = c.in_ok-replies.ensures.items;
  left = all_left (map receipts_in c.args.ends.items) (map left_in c.in_ok-piles.piles.items) c.args.workers c.requires.some
      (length-map c.args.ends.items receipts_in ∙ c.requires.each) c.in_ok-piles.ensures;
}

pub loop-job-preserved : goal.loop-job-preserved
loop-job-preserved g c =
    let piles = map receipts_in c.args.ends.items in
    let h =
    next_job left_in piles c.loop-job.piles.items c.args.workers c.loop-job.job c.index_mut.result.now c.next_of-next.new.pile c.next_of-next.result c.requires.some
    (length-map c.args.ends.items receipts_in ∙ c.requires.each) c.loop-job.invariant.left c.index_mut.ensures.value c.next_of-next.ensures.next
    c.next_of-next.ensures.rest in
    record {
      replies = c.in_ok-add.ensures ∙ ap (λ l. l ++ option_to_list c.next_of-next.result) c.loop-job.invariant.replies
          ∙ ap (λ o. in_turn piles c.args.workers c.loop-job.job ++ option_to_list o) h.0 ∙ sym (in_turn_more piles c.args.workers c.loop-job.job);
      left = h.1;
    }

pub returns-clause-order : goal.returns-clause-order
returns-clause-order g c =
    let end : c.loop-job.job ≡ c.args.jobs = let b = c.loop-job.auto.job-end in omega arith in
    c.loop-job.invariant.replies ∙ ap (in_turn (map receipts_in c.args.ends.items) c.args.workers) end

pub returns-clause-whole : goal.returns-clause-whole
returns-clause-whole g c = λ done well.
    let end : c.loop-job.job ≡ c.args.jobs = let b = c.loop-job.auto.job-end in omega arith in
    ap length (c.loop-job.invariant.replies ∙ ap (in_turn (map receipts_in c.args.ends.items) c.args.workers) end)
    ∙ one_for_each c.args.ends.items c.args.workers c.args.jobs c.requires.some done well
