use Rattle.std.proofs.Common.{◌∙◌, ◌+◌, ap, length, refl, rules, sym}
use Rattle.std.specs.List.{slice_get}
use Rattle.std.proofs.lemmas.Iterator.Adapters.{YieldsList-from_vec}
use Rattle.std.proofs.lemmas.Iterator.Consumers.{YieldsList-at, YieldsList-end, YieldsList-from_enumerate, YieldsList-turn}
use Rattle.std.proofs.lemmas.List.{length_push}
use Rattle.std.proofs.lemmas.List.FromFn.{length-enumerate_from}
use Rattle.tag_board.specs.Board.{newcomer}
use Rattle.ahci_driver.proofs.RunningLemmas.{at_index, crew_more}
use Rattle.ahci_driver.proofs.whole_run.crew.Goals as goal

pub loop-first-preserved : goal.loop-first-preserved
loop-first-preserved g c =
    let t =
    YieldsList-turn
    (YieldsList-at {s = c.into_iter-first-iterator.result} (cc) (YieldsList-from_enumerate {s = c.enumerate-first-items.result}
    (YieldsList-at c.enumerate-first-items.ensures.source (YieldsList-from_vec c.args.choosers.items c.into_iter.ensures.rest (c.into_iter.ensures.len ∙ c.args.choosers.ok.0)))
    c.enumerate-first-items.ensures.count))
    c.loop-first.yielded c.loop-first.first-iterator c.loop-first.yielded_by c.next.result c.next.new.self (c.in-Some.first, c.in-Some.chooser) c.in-Some.is c.next.ensures.steps in
    let at = at_index c.args.choosers.items (length c.loop-first.yielded) (c.in-Some.first, c.in-Some.chooser) t.0 t.1 in
    record {
      seat = search rules;
      workers = c.loop-first.invariant.workers;
      count = ap length c.in_ok-push.ensures.items ∙ length_push c.loop-first.crew.items _ ∙ ap (λ n. n + 1) c.loop-first.invariant.count
          ∙ sym (length_push c.loop-first.yielded (c.in-Some.first, c.in-Some.chooser));
      each = crew_more c.args.driver.now c.args.jobs.now c.args.gate.now c.args.choosers.items c.loop-first.crew.items c.push.new.self.items _ c.in_ok-push.ensures.items
          c.loop-first.invariant.each
          (record {
            driver_is = refl;
            seat_is = c.split-own.ensures.new ∙ ap newcomer c.board.ensures;
            jobs_same = refl;
            gate_same = refl;
            chooser_is = ap (slice_get c.args.choosers.items) c.loop-first.invariant.count ∙ at.1;
            first_is = at.0 ∙ sym c.loop-first.invariant.count;
            workers_is = c.loop-first.invariant.workers ∙ c.args.choosers.ok.0;
          });
    }

pub returns : goal.returns
returns g c =
    let t =
    YieldsList-end
    (YieldsList-at {s = c.into_iter-first-iterator.result} (cc) (YieldsList-from_enumerate {s = c.enumerate-first-items.result}
    (YieldsList-at c.enumerate-first-items.ensures.source (YieldsList-from_vec c.args.choosers.items c.into_iter.ensures.rest (c.into_iter.ensures.len ∙ c.args.choosers.ok.0)))
    c.enumerate-first-items.ensures.count))
    c.loop-first.yielded c.loop-first.first-iterator c.loop-first.yielded_by c.next.result c.next.new.self c.in-None.is c.next.ensures.steps in
    record {
      count = c.loop-first.invariant.count ∙ t.1 ∙ length-enumerate_from 0 c.args.choosers.items;
      each = c.loop-first.invariant.each;
    }
