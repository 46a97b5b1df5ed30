use Rattle.std.proofs.Common.{Option, subst}
use Rattle.device_choice.specs.declared.order.Order.{Order}
use Rattle.ahci_ffi.specs.Choosing.{AnswersTurnBy}
use Rattle.ahci_ffi.proofs.choose.choose_tags.Goals as goal

pub returns-in-Some : goal.returns-in-Some
returns-in-Some c =
    let P : Option Order → Type 0 = λ by. AnswersTurnBy by c.args.set c.args.failing c.args.most c.args.draws.now c.put_turn.result c.args.tags.now c.put_turn.new.tags c.args.len.now c.put_turn.new.len in
    subst P c.in-Some.ensures c.put_turn.ensures
