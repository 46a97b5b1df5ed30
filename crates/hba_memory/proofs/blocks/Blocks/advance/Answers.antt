use Rattle.std.proofs.Common.{◌∙◌, ◌*◌, ap, arith, drop}
use Rattle.hba_memory.specs.Blocks.{after_block}
use Rattle.hba_memory.proofs.BlockLemmas.{behind_block}
use Rattle.hba_memory.proofs.blocks.Blocks.advance.Goals as goal

pub returns : goal.returns
returns g c =
    behind_block (drop c.self.inside.next c.self.inside.list.items) _ c.self.inside.bytes.items c.self.inside.done c.min.result (512 * c.args.sectors) c.pass-at.ensures.list
    (let m = c.min.ensures in let n = c.len.ensures in omega arith)
    ∙ ap (λ v. after_block v c.args.sectors) c.self.view_is
