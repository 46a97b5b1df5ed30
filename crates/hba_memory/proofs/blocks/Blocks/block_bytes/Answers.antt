use Rattle.std.proofs.Common.{◌∙◌, ◌+◌, ◌-◌, ◌*◌, ap, arith, drop, take}
use Rattle.hba_memory.proofs.BlockLemmas.{first_of}
use Rattle.hba_memory.proofs.blocks.Blocks.block_bytes.Goals as goal

pub returns : goal.returns
returns g c =
    ap (λ l. take ((c.self.inside.done + c.min-count.result) - c.self.inside.done) (drop c.self.inside.done l)) c.deref.ensures.value
    ∙ first_of c.self.inside.bytes.items c.self.inside.done c.min-count.result (512 * c.args.sectors) (let m = c.min-count.ensures in let n = c.len.ensures in omega arith)
    ∙ ap (λ v. take (512 * c.args.sectors) v.bytes) c.self.view_is
