-- What the walks over bare boxes share: the names that they cite, the box of a port on the C library's heap, and a walk's end.
pub use mathlib.Core.Path.{◌≡◌, refl, sym, ap, ◌∙◌}
pub use mathlib.Core.List.{List, [], ◌∷◌, ◌++◌}
pub use Rattle.std.proofs.raw_atomic.Walks.{proved_at}
pub use base.Logic.{id⊢, ent, fst∗, never}
pub use base.Fml.{ftrue, fsep, flft, Fml}
pub use mir.Syntax.{Args, Dict, Fn, a_type, dcons, dnil}
pub use mir.MapTy.{inst_fn}
pub use mir.Val.{Val, vptr, vstruct, vnull, of_list, has_ty, WT}
pub use prog.Wp.{WpFn}
pub use types.Logic.{sem}
pub use contract.BorrowLft.{◌⊑◌}
pub use contract.Monad.{fact}
pub use contract.Running.{tables}
pub use types.Kit.{Item, at_ret, ‵, raw, prop, ◌⊛◌, some, later, ◌$◌, ◌∵◌, !, qed, move, drop, use1, split, split3, join, group, pick, fpick, fpack, fsplit, fjoin, feq_i, feq_l, rewrite, regoal, suffices, await, done}
pub use types.Part.{whole, sub, agg}
pub use types.Run.{stop, fld, lit, no_more, and_then, of_opd, returns, enter, first, blocks, exec}
pub use types.ByLocal.{alloc_all, pass_all, free_all, look_at, get, get_in, sets, lands_as, lands_last, env}
pub use denote.RattleType.{RattleType, Valss}
pub use denote.Exit.{yes, no}
pub use denote.Param.{bounded, layout}
pub use denote.RawPtr.{Ptr, RawPtr, block_ptr, null_ptr, ptr_val, in_a_block}
pub use denote.Signature.{Slot, plain, type_at}
pub use denote.Steps.{heard, nothing, only}
pub use denote.Struct.Tuple.{Tuple}
pub use denote.Struct.Struct.{within}
pub use denote.Struct.Owning.{shape, fields, to}
pub use denote.Triple.Call.{calls_at, calls_at_last}
pub use denote.Triple.Clauses.{Ended}
pub use denote.Triple.Spec.{triple_of}
pub use denote.Triple.Statement.{Contract}
pub use denote.Triple.Table.{framed}
pub use denote.Triple.Walked.{says, Stays, stay_dropped, walk_of, ends_at, Goes-dropped}
pub use Rattle.std.proofs.alloc.Calls.{token, handle_tells, Goes-blank}
pub use Rattle.std.specs.Box.Ownership.{box_owns}
pub use Rattle.std.proofs.BoxSteps.Form.{Bx, D, τ, R, P, B, args, box_ty, word, box_typed}
pub use Rattle.std.proofs.BoxSteps.Steps.{box_out, box_in}
pub use Rattle.std_heap.specs.contracts.Global.{the_row as heap_row}
use mir.Syntax.{impl, tnil}
use Rattle.std_heap.specs.contracts.GlobalAllocator.TheImpl.{ghosts, dict}
use Rattle.std_heap.proofs.Global.TheLaws as heap
use Rattle.ahci_port.proofs.port.Port.TheLaws as port
use Rattle.sector_store.proofs.sectors.Sectors.TheLaws as sectors
use Rattle.ahci_ffi.specs.Held.{heap_port, heap_sectors, heap_store}

-- the box of a port
abbrev pub PortBox : Bx
PortBox = record {
  row = heap_port;
  laws = port.the_row_laws heap_row heap_sectors ghosts heap_store heap.the_row_laws (sectors.the_row_laws heap_row ghosts heap.the_row_laws);
  al = record { row = heap_row; laws = heap.the_row_laws; g = ghosts; d = dict; drops = impl [] tnil dnil };
}
