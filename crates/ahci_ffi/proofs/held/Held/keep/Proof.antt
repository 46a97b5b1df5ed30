-- `keep` moves both fields, and what they own goes with them.
use Rattle.ahci_ffi.proofs.Walks.{refl, List, [], ◌∷◌, ◌++◌, proved_at, id⊢, ftrue, fsep, Val, WpFn, tables, ‵, prop, ◌⊛◌, ◌$◌, ◌∵◌, !, qed, drop, move, use1, split, join, fsplit, fjoin, regoal, suffices, done, whole, sub, agg, stop, fld, no_more, and_then, of_opd, returns, enter, alloc_all, pass_all, free_all, look_at, get, get_in, sets, RattleType, no, plain, nothing, says, Stays, stay_dropped, walk_of, ends_at, Goes-dropped, D, B, word, box_typed, box_out, box_in, PortBox}
use Rattle.std.specs.Prelude.{Some}
use Rattle.ahci_ffi.specs.contracts.bare.Bare as bare
use Rattle.ahci_ffi.specs.contracts.held.Held as held
use Rattle.ahci_ffi.specs.contracts.held.Held.keep as f
use Rattle.ahci_ffi.specs.contracts.held.Held.keep.Key.{name}
use Rattle.ahci_ffi.proofs.held.Held.keep.Statement.{statement}
use Rattle.ahci_ffi.proofs.held.Held.keep.Code as code
use Rattle.ahci_ffi.specs.Held.{heap_port}
use Rattle.std_heap.specs.contracts.Global as Heap
use Rattle.std_heap.specs.contracts.GlobalAllocator.TheImpl.{ghosts}

abbrev Apart : RattleType
Apart = bare.the_row heap_port Heap.the_row ghosts

abbrev spent : Stays f.ended.signature.params f.ended.kept
spent = (stay_dropped (plain (λ _. Apart)) no, tt)

pub keep_spec : {M : Type 1} → statement M
keep_spec 𝓤 𝓛 𝓜 𝓡 wired =
    let c = f.clauses 𝓛 𝓜.mem 𝓡.returns in
    let W = walk_of 𝓛 f.ended spent c in
    let 𝓣 = tables 𝓤 𝓛.H 𝓜 𝓡 𝓡.env in
    proved_at 𝓛 f.ended spent c 𝓜 𝓡 (Goes-dropped 𝓛 0 (plain (λ _. Apart)) no (λ κs x l. refl), tt)
    name code.function (code.unfolded 𝓤 𝓛.H 𝓜 𝓡 wired)
    (λ y are.
    let from = y.0.3.0 in
    let box : D PortBox = record { ptr = from.typed; alloc = from.heap; value = from.value } in
    let kept : held.the_row.Denot = record { address = from.typed; heap = from.heap; port = Some from.value } in
    qed 𝓛 ((‵ ftrue ⊛ ‵ (fsep ((B PortBox).own_val box y.0.4.0) ftrue)) ∷ ‵ ftrue ∷ []) ∵ split ! $ drop ! $ fsplit ! $
    box_out PortBox ! box y.0.4.0 (λ b o hv at vals fits. box_in PortBox ! box b o box.value at refl $
    let w = word PortBox hv b o in
    use1 𝓛 (‵ (held.the_row.own_val kept (w ∷ []))) (id⊢ 𝓤 _) $ move ! (1 ∷ []) $ drop ! $ move ! (1 ∷ []) $ drop ! $
    regoal ! (λ (us : List Val). prop (WpFn 𝓤 𝓛.H 𝓣.C 𝓣.Λ code.function (us ++ []) (W.post y))) vals refl $
    -- [what the result owns]
    enter ! _ _ _ _ _ $ alloc_all ! (λ l. pass_all ! refl (box_typed PortBox hv b o fits, tt) $
    sets ! (of_opd ! (get_in ! (fld ! refl (stop !)) (sub ! 0 refl (whole !)))) refl (tt, tt) $
    sets ! (of_opd ! (get_in ! (fld ! refl (stop !)) (sub ! 1 refl (whole !)))) refl fits $
    sets ! (of_opd ! (get ! refl)) refl (tt, tt) $
    sets ! (agg ! (and_then ! (get ! refl) (and_then ! (get ! refl) (no_more !)))) refl (box_typed PortBox hv b o fits) $
    returns ! (look_at ! 0 refl) $ free_all ! refl $
    suffices ! _ (ends_at 𝓛 f.ended spent c y w kept (tt, tt) (tt, tt)) $ says ! refl $
    nothing ! $ nothing ! $ fjoin ! $ join ! $ nothing ! $ join ! $ done !)))
