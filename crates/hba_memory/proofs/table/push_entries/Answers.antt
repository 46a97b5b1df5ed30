-- One entry more.
use Rattle.std.proofs.Common.{◌∷◌, ◌++◌, ◌*◌, [], drop, take, ap, sym, ◌∙◌, arith}
use Rattle.std.proofs.Common.{append_assoc}
use Rattle.std.proofs.lemmas.List.FromFn.{map-range_with_len_more}
use Rattle.hba_command.specs.PrdEntry.{entry_at}
use Rattle.hba_memory.specs.Table.{entries_in}
use Rattle.hba_memory.proofs.table.push_entries.Goals as goal

pub loop-index-preserved : goal.loop-index-preserved
loop-index-preserved g c = record {
  items =
      c.push_reserved.ensures.items
      ∙ ap (λ l. l ++ c.entry_in.result ∷ []) c.loop-index.invariant.items
      ∙ append_assoc c.args.list.now.items (entries_in c.loop-index.index c.args.bytes.now) (c.entry_in.result ∷ [])
      ∙ ap (λ l. c.args.list.now.items ++ l)
      (ap (λ e. entries_in c.loop-index.index c.args.bytes.now ++ e ∷ []) c.entry_in.ensures
      ∙ sym (map-range_with_len_more (λ k. entry_at (take 16 (drop (16 * k) c.args.bytes.now))) 0 c.loop-index.index c.loop-index.index (omega arith)));
  len = (let i = c.loop-index.invariant.len in let n = c.push_reserved.ensures.len in omega arith);
  capacity = c.push_reserved.ensures.capacity ∙ c.loop-index.invariant.capacity;
}
