-- What the walks over a bare box share, and the box of a controller on the C library's heap.
pub use Rattle.ahci_ffi.proofs.Walks.{refl, ap, List, [], ◌∷◌, ◌++◌, proved_at, id⊢, ftrue, fsep, Val, vnull, vstruct, has_ty, WT, WpFn, fact, tables, raw, ‵, prop, ◌⊛◌, ◌$◌, ◌∵◌, !, qed, drop, move, use1, split, join, fsplit, fjoin, fpack, feq_i, regoal, rewrite, suffices, done, whole, sub, agg, stop, fld, lit, no_more, and_then, of_opd, returns, enter, alloc_all, pass_all, free_all, look_at, get, get_in, sets, RattleType, Valss, yes, no, plain, layout, null_ptr, heard, nothing, within, shape, fields, to, says, Stays, stay_dropped, walk_of, ends_at, Goes-dropped, handle_tells, D, B, Bx, word, box_typed, box_out, box_in, heap_row}
use mir.Syntax.{dnil, impl, tnil}
use Rattle.std_heap.specs.contracts.GlobalAllocator.TheImpl.{ghosts, dict}
use Rattle.std_heap.proofs.Global.TheLaws as heap
use Rattle.ahci_hba.proofs.hba.Hba.TheLaws as hba
use Rattle.sector_store.proofs.sectors.Sectors.TheLaws as sectors
use Rattle.ahci_ffi.specs.Held.{heap_sectors, heap_store}
use Rattle.hba_ffi.specs.Held.{heap_hba}

-- the box of a controller
abbrev pub HbaBox : Bx
HbaBox = record {
  row = heap_hba;
  laws = hba.the_row_laws heap_row heap_sectors ghosts heap_store heap.the_row_laws (sectors.the_row_laws heap_row ghosts heap.the_row_laws);
  al = record { row = heap_row; laws = heap.the_row_laws; g = ghosts; d = dict; drops = impl [] tnil dnil };
}
