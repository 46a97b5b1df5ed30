-- `of` hands the box to `into_raw_with_allocator`, and puts both parts of the answer into the fields.
use mir.Raw.{raw as bare_type}
use Rattle.ahci_ffi.proofs.Walks.{◌≡◌, refl, ap, ◌∙◌, List, [], ◌∷◌, ◌++◌, proved_at, id⊢, fst∗, never, ftrue, fsep, flft, Dict, Fn, a_type, dcons, dnil, inst_fn, Val, vstruct, of_list, WpFn, sem, ◌⊑◌, fact, tables, Item, ‵, raw, prop, ◌⊛◌, some, later, ◌$◌, ◌∵◌, !, qed, move, drop, use1, split, split3, join, pick, fpick, fsplit, fjoin, feq_l, rewrite, regoal, suffices, await, done, whole, sub, agg, stop, fld, no_more, and_then, of_opd, returns, enter, alloc_all, pass_all, free_all, look_at, get, get_in, sets, lands_as, RattleType, no, bounded, Ptr, RawPtr, block_ptr, null_ptr, ptr_val, in_a_block, plain, heard, nothing, only, Tuple, calls_at, Ended, triple_of, framed, says, Stays, stay_dropped, walk_of, ends_at, token, handle_tells, Goes-blank, box_owns, Bx, D, τ, R, P, B, word, box_typed, box_out, box_in}
use Rattle.std.specs.contracts.boxed.Box.into_raw_with_allocator as opened
use Rattle.std.proofs.boxed.Box.into_raw_with_allocator.Met as opening
use Rattle.ahci_ffi.specs.contracts.bare.Bare as bare
use Rattle.ahci_ffi.specs.contracts.bare.Bare.of as f
use Rattle.ahci_ffi.specs.contracts.bare.Bare.of.Key.{name}
use Rattle.ahci_ffi.proofs.bare.Bare.of.Statement.{statement}
use Rattle.ahci_ffi.proofs.bare.Bare.of.Code as code

module _ (E : Bx) (let_go : Dict) where
  abbrev body : Fn
  body = inst_fn (bounded (a_type ∷ a_type ∷ []) (E.row, (E.al.row, tt)) (dcons E.al.d (dcons E.al.drops (dcons let_go dnil)))) code.function

  abbrev ended : Ended
  ended = f.ended E.row E.al.row E.al.g E.al.d E.al.drops let_go

  abbrev spent : Stays ended.signature.params ended.kept
  spent = (stay_dropped (plain (λ _. B E)) no, tt)

  abbrev Apart : RattleType
  Apart = bare.the_row (R E) (P E) E.al.g

pub of_spec : {M : Type 1} → statement M
of_spec 𝓤 𝓛 𝓜 𝓡 wired X Z LX LZ g d dd dx able freed dropped =
    let E : Bx = record { row = X; laws = LX; al = record { row = Z; laws = LZ; g = g; d = d; drops = dd } } in
    let c = f.clauses X Z g d dd dx 𝓛 𝓜.mem 𝓡.returns in
    let W = walk_of 𝓛 (ended E dx) (spent E dx) c in
    let 𝓣 = tables 𝓤 𝓛.H 𝓜 𝓡 𝓡.env in
    let Opens = triple_of 𝓛 (opened.signature X Z g d dd dx) (opened.spec X Z g d dd dx 𝓛 𝓜.mem 𝓡.returns) in
    proved_at 𝓛 (ended E dx) (spent E dx) c 𝓜 𝓡 (Goes-blank 𝓛 2 (plain (λ _. B E)) no (λ κs x l. tt), tt)
    (name (bounded (a_type ∷ a_type ∷ []) (X, (Z, tt)) (dcons d (dcons dd (dcons dx dnil))))) (body E dx) (code.unfolded 𝓤 𝓛.H 𝓜 𝓡 wired (X, (Z, tt)) d dd dx)
    (λ y are.
    let κs = y.0.0 in let qs = y.0.1 in let box = y.0.3.0 in let a = box.alloc in
    let tokens : Item 𝓤 = ‵ (flft κs.0 qs.0) ⊛ ‵ (flft κs.1.0 qs.1.0) ⊛ ‵ ftrue in
    let alive : Item 𝓤 = raw (fact 𝓤 (κs.0 ⊑ X.lives)) ⊛ raw (fact 𝓤 (κs.1.0 ⊑ Z.lives)) ⊛ ‵ ftrue in
    qed 𝓛 ((tokens ⊛ ‵ (fsep ((B E).own_val box y.0.4.0) ftrue)) ∷ alive ∷ []) ∵ split ! $ move ! (1 ∷ []) $ fsplit ! $
    box_out E ! box y.0.4.0 (λ b o hv at vals fits. box_in E ! box b o box.value at refl $
    let w = word E hv b o in
    let z : Opens.Ghost = ((κs, qs, tt, (box, tt), (w ∷ [], tt)), tt) in
    regoal ! (λ (us : List Val). prop (WpFn 𝓤 𝓛.H 𝓣.C 𝓣.Λ (body E dx) (us ++ []) (W.post y))) vals refl $
    -- [the box; nothing; the tokens; that they are alive]
    enter ! _ _ _ _ _ $ alloc_all ! (λ l. pass_all ! refl (box_typed E hv b o fits, tt) $
    sets ! (of_opd ! (get ! refl)) refl (box_typed E hv b o fits) $
    fjoin ! $ move ! (1 ∷ 0 ∷ []) $ join ! $ join ! $ use1 𝓛 (raw (Opens.pre z)) (id⊢ 𝓤 _) $
    calls_at ! (framed 𝓤 𝓛.H 𝓜 𝓣) Opens (opening.met 𝓤 𝓛 𝓜 𝓡 (code.calls-std_alloc::boxed::Box::into_raw_with_allocator 𝓡.env wired) X Z LX LZ g d dd dx able freed dropped) z
    (and_then ! (get ! refl) (no_more !)) (λ u.
    use1 𝓛 (later (some (λ (r : Ptr × Z.Denot). (tokens ⊛ ‵ ((Tuple (RawPtr ∷ P E ∷ [])).own_val r (u ∷ []))) ⊛
    some (λ (_ : (Unit {0} × (Unit {0} × Unit {0})) × Unit {0}). ‵ (fsep (fsep ftrue (fsep ftrue ftrue)) ftrue) ⊛ (raw (fact 𝓤 (r.1 ≡ a)) ⊛ ‵ (box_owns (token E.al a) (R E) r.0 box.value)))))) (id⊢ 𝓤 _) $
    await ! tt $ pick ! (λ r. split ! $ move ! (1 ∷ []) $ pick ! (λ _. split3 ! $ drop ! $ heard ! (r.1 ≡ a) (λ same.
    -- the block's address, and the pair's own words
    in_a_block ! r.0 (λ p. box_owns (token E.al a) (R E) p box.value) (fst∗ 𝓤 (never 𝓤) (sem 𝓛 (token E.al a (bare_type (τ E)) null_ptr))) (λ b' o' here.
    move ! (1 ∷ []) $ split ! $ move ! (1 ∷ []) $ fpick ! (λ parts. fsplit ! $ feq_l ! (λ is_pair. fsplit ! $ feq_l ! (λ is_ptr. fsplit ! $
    rewrite ! 0 (λ (s : Z.Denot). ‵ (Z.own_val s parts.1.0)) same refl $ handle_tells E.al ! a parts.1.0 (λ hw is_handle fits'.
    let made : D E = record { ptr = block_ptr b' o'; alloc = a; value = box.value } in
    let answer : (Apart E dx).Denot = record { typed = block_ptr b' o'; heap = a; value = box.value } in
    lands_as ! (ap only (is_pair ∙ (λ j. vstruct (of_list ((is_ptr ∙ ap (λ (p : Ptr). ptr_val p ∷ []) here) j ++ (is_handle j ++ []))) ∷ []))) refl (box_typed E hw b' o' fits') $
    sets ! (of_opd ! (get_in ! (fld ! refl (stop !)) (sub ! 0 refl (whole !)))) refl (tt, tt) $
    sets ! (of_opd ! (get_in ! (fld ! refl (stop !)) (sub ! 1 refl (whole !)))) refl fits' $
    sets ! (of_opd ! (get ! refl)) refl fits' $
    sets ! (agg ! (and_then ! (get ! refl) (and_then ! (get ! refl) (no_more !)))) refl (box_typed E hw b' o' fits') $
    returns ! (look_at ! 0 refl) $ free_all ! refl $
    -- [the handle; nothing; the tokens; the value with the right to free its block]
    move ! (3 ∷ []) $ fsplit ! $ box_in E ! made b' o' box.value refl refl $
    use1 𝓛 (‵ ((Apart E dx).own_val answer (word E hw b' o' ∷ []))) (id⊢ 𝓤 _) $ move ! (1 ∷ []) $ drop ! $
    suffices ! _ (ends_at 𝓛 (ended E dx) (spent E dx) c y (word E hw b' o') answer ((tt, (tt, tt)), tt) (tt, tt)) $ says ! refl $
    nothing ! $ nothing ! $ fjoin ! $ join ! $ move ! (1 ∷ 0 ∷ []) $ join ! $ done !))))))))))))
