use Rattle.std.proofs.Common.{◌∙◌, ◌+◌, ◌-◌, ◌*◌, ap, arith, drop, take}
use Rattle.hba_memory.proofs.BlockLemmas.{first_of}
use Rattle.hba_memory.proofs.blocks.Blocks.block_list.Goals as goal

pub returns : goal.returns
returns g c =
    ap (λ l. take ((c.self.inside.next + c.min-count.result) - c.self.inside.next) (drop c.self.inside.next l)) c.deref.ensures.value
    ∙ first_of c.self.inside.list.items c.self.inside.next c.min-count.result (256 * c.args.sectors) (let m = c.min-count.ensures in let n = c.len.ensures in omega arith)
    ∙ ap (λ v. take (256 * c.args.sectors) v.list) c.self.view_is
