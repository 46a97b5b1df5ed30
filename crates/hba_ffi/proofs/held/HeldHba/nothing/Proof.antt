-- `nothing` puts null beside the allocator, and owns nothing there.
use lib.Dec.{T, lit<}
use Rattle.hba_ffi.proofs.Walks.{refl, List, [], ◌∷◌, ◌++◌, proved_at, id⊢, ftrue, fsep, Val, vnull, vstruct, has_ty, WT, WpFn, tables, ‵, prop, ◌⊛◌, ◌$◌, ◌∵◌, !, qed, drop, move, use1, split, join, fsplit, fjoin, fpack, feq_i, regoal, suffices, done, agg, lit, of_opd, no_more, and_then, returns, enter, alloc_all, pass_all, free_all, look_at, get, sets, Valss, yes, layout, null_ptr, plain, nothing, within, shape, fields, to, says, Stays, stay_dropped, walk_of, ends_at, Goes-dropped, handle_tells, HbaBox}
use mir.Val.{vcons, vnil}
use Rattle.std.specs.Prelude.{None}
use Rattle.std.proofs.ResultValues.{and_tt}
use Rattle.hba_ffi.specs.contracts.held.HeldHba as held
use Rattle.hba_ffi.specs.contracts.held.HeldHba.nothing as f
use Rattle.hba_ffi.specs.contracts.held.HeldHba.nothing.Key.{name}
use Rattle.hba_ffi.proofs.held.HeldHba.nothing.Statement.{statement}
use Rattle.hba_ffi.proofs.held.HeldHba.nothing.Code as code
use Rattle.std_heap.specs.contracts.Global as Heap

abbrev spent : Stays f.ended.signature.params f.ended.kept
spent = (stay_dropped (plain (λ _. Heap.the_row)) yes, tt)

pub nothing_spec : {M : Type 1} → statement M
nothing_spec 𝓤 𝓛 𝓜 𝓡 wired =
    let c = f.clauses 𝓛 𝓜.mem 𝓡.returns in
    let W = walk_of 𝓛 f.ended spent c in
    let 𝓣 = tables 𝓤 𝓛.H 𝓜 𝓡 𝓡.env in
    proved_at 𝓛 f.ended spent c 𝓜 𝓡 (Goes-dropped 𝓛 0 (plain (λ _. Heap.the_row)) yes (λ κs x l. refl), tt)
    name code.function (code.unfolded 𝓤 𝓛.H 𝓜 𝓡 wired)
    (λ y are.
    let a = y.0.3.0 in
    let empty : held.the_row.Denot = record { address = null_ptr; heap = a; hba = None } in
    qed 𝓛 ((‵ ftrue ⊛ ‵ (fsep (Heap.the_row.own_val a y.0.4.0) ftrue)) ∷ ‵ ftrue ∷ []) ∵ split ! $ drop ! $ fsplit ! $
    handle_tells HbaBox.al ! a y.0.4.0 (λ hv vals fits. move ! (1 ∷ []) $ drop ! $ move ! (1 ∷ []) $ drop ! $
    let w : Val = vstruct (vcons vnull (vcons hv vnil)) in
    let typed : T (has_ty (layout held.the_row) w) × WT w = (and_tt (has_ty (layout Heap.the_row) hv) fits.0, (record { fits = lit< tt }, (fits.1, tt))) in
    regoal ! (λ (us : List Val). prop (WpFn 𝓤 𝓛.H 𝓣.C 𝓣.Λ code.function (us ++ []) (W.post y))) vals refl $
    -- [the allocator]
    enter ! _ _ _ _ _ $ alloc_all ! (λ l. pass_all ! refl (fits, tt) $
    sets ! (of_opd ! (lit ! tt)) refl (tt, record { fits = lit< tt }) $
    sets ! (agg ! (and_then ! (get ! refl) (and_then ! (get ! refl) (no_more !)))) refl typed $
    returns ! (look_at ! 0 refl) $ free_all ! refl $
    -- what the struct owns: its two fields, and nothing beside them
    nothing ! $ move ! (1 ∷ []) $ nothing ! $ move ! (1 ∷ 0 ∷ []) $ fjoin ! $
    feq_i ! (List Val) (vnull ∷ []) (vnull ∷ []) refl $ fjoin ! $ feq_i ! (List Val) (w ∷ []) (w ∷ []) refl $ fjoin ! $
    fpack ! (Valss (fields held.the_type)) (within (shape held.the_type) (to held.the_type empty) (w ∷ [])) (vnull ∷ [], (hv ∷ [], tt)) $ fjoin ! $
    use1 𝓛 (‵ (held.the_row.own_val empty (w ∷ []))) (id⊢ 𝓤 _) $
    suffices ! _ (ends_at 𝓛 f.ended spent c y w empty (tt, tt) (tt, tt)) $ says ! refl $
    nothing ! $ nothing ! $ fjoin ! $ join ! $ nothing ! $ join ! $ done !)))
