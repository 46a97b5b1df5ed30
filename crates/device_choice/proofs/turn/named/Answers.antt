use Rattle.std.proofs.Common.{◌≡◌, ℕ, ◌<◌, [], ◌∷◌, length, min, ap, subst, ◌∙◌, arith}
use Rattle.std.proofs.lemmas.List.{length-append}
use Rattle.word_bits.specs.Places.{bits}
use Rattle.device_choice.specs.Orders.{count_in, Names}
use Rattle.device_choice.proofs.OrdersLemmas.{count_in-without, names-here, names_below_32}
use Rattle.device_choice.proofs.TurnsLemmas.{ends, goes_further, all_are_named}
use Rattle.device_choice.proofs.turn.named.Goals as goal

pub returns-in_default : goal.returns-in_default
returns-in_default c =
    ends c.args.order c.args.draws.now c.args.most c.loop-at.at (bits c.args.set) (bits c.loop-at.left) c.loop-at.tags.items c.loop-at.invariant.goes_on (λ h. c.in_default.ensures)

pub without_bit-left-requires : goal.without_bit-left-requires
without_bit-left-requires c = names_below_32 c.args.order c.draw_at.result c.loop-at.left c.in-Some.tag c.in-Some.ensures

pub loop-at-preserved : goal.loop-at-preserved
loop-at-preserved c =
    let at_most : c.loop-at.at < c.args.most = omega arith in
    let P : ℕ → Type 0 = λ d. Names c.args.order d (bits c.loop-at.left) c.in-Some.tag in
    let here = names-here c.args.order c.draw_at.result (bits c.loop-at.left) c.in-Some.tag c.in-Some.ensures in
    record {
      goes_on = goes_further c.args.order c.args.draws.now c.args.most c.loop-at.at (bits c.args.set) (bits c.loop-at.left) c.loop-at.tags.items c.in-Some.tag (bits c.without_bit-left.result) c.push.new.self.items c.loop-at.invariant.goes_on at_most (subst P c.draw_at.ensures c.in-Some.ensures) c.without_bit-left.ensures c.push.ensures.items;
      room = (let all = ap length c.push.ensures.items ∙ length-append c.loop-at.tags.items (c.in-Some.tag ∷ []) in let r = c.loop-at.invariant.room in omega arith);
      count = (let less = ap count_in c.without_bit-left.ensures in let one = count_in-without (bits c.loop-at.left) c.in-Some.tag here in let k = c.loop-at.invariant.count in omega arith);
    }

pub returns : goal.returns
returns c =
    let last : c.loop-at.at ≡ min c.args.most 32 = omega arith in
    ends c.args.order c.args.draws.now c.args.most c.loop-at.at (bits c.args.set) (bits c.loop-at.left) c.loop-at.tags.items c.loop-at.invariant.goes_on
    (all_are_named c.args.set c.loop-at.left c.loop-at.at c.args.most last c.loop-at.invariant.count)
