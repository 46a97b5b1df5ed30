-- `whole` gives what the two fields own to `from_raw`.
use Rattle.ahci_ffi.proofs.Walks.{◌≡◌, refl, sym, ap, List, [], ◌∷◌, ◌++◌, proved_at, id⊢, ftrue, fsep, flft, Fn, inst_fn, Val, vptr, WpFn, ◌⊑◌, fact, tables, Item, at_ret, ‵, raw, prop, ◌⊛◌, some, later, ◌$◌, ◌∵◌, !, qed, move, drop, use1, split, split3, join, pick, fsplit, fjoin, feq_i, rewrite, regoal, suffices, await, done, whole, sub, stop, fld, no_more, and_then, of_opd, returns, enter, first, blocks, exec, alloc_all, pass_all, free_all, look_at, get, get_in, sets, lands_last, env, RattleType, no, block_ptr, plain, heard, nothing, only, calls_at_last, Ended, triple_of, framed, says, Stays, stay_dropped, walk_of, ends_at, Goes-blank, Bx, D, R, P, B, args, box_ty, word, box_typed, box_out, box_in, has_ty, WT}
use lib.Dec.{T}
use mathlib.Core.Path.{subst}
use Rattle.std.proofs.VecSteps.Shapes.{after}
use Rattle.std.specs.contracts.boxed.Box.from_raw as closed
use Rattle.std.proofs.boxed.Box.from_raw.Met as closing
use Rattle.ahci_ffi.specs.contracts.bare.Bare as bare
use Rattle.ahci_ffi.specs.contracts.bare.Bare.whole as f
use Rattle.ahci_ffi.specs.contracts.bare.Bare.whole.Key.{name}
use Rattle.ahci_ffi.proofs.bare.Bare.whole.Statement.{statement}
use Rattle.ahci_ffi.proofs.bare.Bare.whole.Code as code

module _ (E : Bx) where
  abbrev body : Fn
  body = inst_fn (args E) code.function

  abbrev ended : Ended
  ended = f.ended E.row E.al.row E.al.g E.al.d E.al.drops

  abbrev Apart : RattleType
  Apart = bare.the_row (R E) (P E) E.al.g

  abbrev spent : Stays ended.signature.params ended.kept
  spent = (stay_dropped (plain (λ _. Apart)) no, tt)

pub whole_spec : {M : Type 1} → statement M
whole_spec 𝓤 𝓛 𝓜 𝓡 wired X Z LX LZ g d dd able freed =
    let E : Bx = record { row = X; laws = LX; al = record { row = Z; laws = LZ; g = g; d = d; drops = dd } } in
    let c = f.clauses X Z g d dd 𝓛 𝓜.mem 𝓡.returns in
    let W = walk_of 𝓛 (ended E) (spent E) c in
    let 𝓣 = tables 𝓤 𝓛.H 𝓜 𝓡 𝓡.env in
    let Closes = triple_of 𝓛 (closed.signature X Z g d dd) (closed.spec X Z g d dd 𝓛 𝓜.mem 𝓡.returns) in
    proved_at 𝓛 (ended E) (spent E) c 𝓜 𝓡 (Goes-blank 𝓛 2 (plain (λ _. Apart E)) no (λ κs x l. tt), tt)
    (name (args E)) (body E) (code.unfolded 𝓤 𝓛.H 𝓜 𝓡 wired (X, (Z, tt)) d dd)
    (λ y are.
    let κs = y.0.0 in let qs = y.0.1 in let from = y.0.3.0 in let a = from.heap in let x = from.value in
    let box : D E = record { ptr = from.typed; alloc = a; value = x } in
    let tokens : Item 𝓤 = ‵ (flft κs.0 qs.0) ⊛ ‵ (flft κs.1.0 qs.1.0) ⊛ ‵ ftrue in
    let alive : Item 𝓤 = raw (fact 𝓤 (κs.0 ⊑ X.lives)) ⊛ raw (fact 𝓤 (κs.1.0 ⊑ Z.lives)) ⊛ ‵ ftrue in
    qed 𝓛 ((tokens ⊛ ‵ (fsep ((B E).own_val box y.0.4.0) ftrue)) ∷ alive ∷ []) ∵ split ! $ move ! (1 ∷ []) $ fsplit ! $
    box_out E ! box y.0.4.0 (λ b o hv at vals fits. fjoin ! $
    let w = word E hv b o in
    let z : Closes.Ghost = ((κs, qs, tt, (a, (block_ptr b o, tt)), (hv ∷ [], (vptr b o ∷ [], tt))), x) in
    regoal ! (λ (us : List Val). prop (WpFn 𝓤 𝓛.H 𝓣.C 𝓣.Λ (body E) (us ++ []) (W.post y))) vals refl $
    -- [the value with the right to free its block; the handle; nothing; the tokens; that they are alive]
    enter ! _ _ _ _ _ $ alloc_all ! (λ l. pass_all ! refl (box_typed E hv b o fits, tt) $
    sets ! (of_opd ! (get_in ! (fld ! refl (stop !)) (sub ! 0 refl (whole !)))) refl (tt, tt) $
    sets ! (of_opd ! (get_in ! (fld ! refl (stop !)) (sub ! 1 refl (whole !)))) refl fits $
    first ! $ blocks ! $ sets ! (of_opd ! (get ! refl)) refl fits $
    -- what `from_raw` asks for: the tokens with its two arguments, that they are alive, and the value
    move ! (4 ∷ []) $ split3 ! $ move ! (2 ∷ []) $ drop ! $ move ! (1 ∷ 2 ∷ []) $ join ! $ move ! (1 ∷ 0 ∷ []) $ join ! $
    move ! (2 ∷ []) $ feq_i ! (List Val) (vptr b o ∷ []) (vptr b o ∷ []) refl $ fjoin ! $ move ! (2 ∷ 0 ∷ []) $ fjoin ! $ move ! (2 ∷ 0 ∷ []) $ join ! $ join ! $
    use1 𝓛 (raw (Closes.pre z)) (id⊢ 𝓤 _) $
    calls_at_last ! (framed 𝓤 𝓛.H 𝓜 𝓣) Closes (closing.met 𝓤 𝓛 𝓜 𝓡 (code.calls-std_alloc::boxed::Box::from_raw 𝓡.env wired) X Z LX LZ g d dd able freed) z
    (and_then ! (get ! refl) (and_then ! (get ! refl) (no_more !))) (λ u.
    use1 𝓛 (later (some (λ (r : D E). (tokens ⊛ ‵ ((B E).own_val r (u ∷ []))) ⊛
    some (λ (_ : Unit {0} × (Unit {0} × Unit {0})). ‵ (fsep ftrue (fsep ftrue ftrue)) ⊛ (raw (fact 𝓤 (r.value ≡ x)) ⊛ raw (fact 𝓤 (r.alloc ≡ a))))))) (id⊢ 𝓤 _) $
    await ! tt $ pick ! (λ r. split ! $ move ! (1 ∷ []) $ pick ! (λ _. split3 ! $ drop ! $ heard ! (r.value ≡ x) (λ same. drop ! $ split ! $ move ! (1 ∷ []) $
    box_out E ! r (u ∷ []) (λ b' o' hw at' vals' fits'. box_in E ! r b' o' r.value at' refl $ rewrite ! 0 (λ (us : List Val). ‵ ((B E).own_val r us)) (sym vals') refl $
    let typed : T (has_ty (box_ty E) u) × WT u = subst (λ (v : Val). T (has_ty (box_ty E) v) × WT v) (sym (ap only vals')) (box_typed E hw b' o' fits') in
    lands_last ! refl typed $ exec ! 𝓣.C 𝓣.Λ (env (body E).locals l) (after 3 (body E).body) (at_ret (env (body E).locals l) (W.post y)) $
    sets ! (of_opd ! (get ! refl)) refl typed $ returns ! (look_at ! 0 refl) $ free_all ! refl $
    suffices ! _ (ends_at 𝓛 (ended E) (spent E) c y u r ((tt, (tt, tt)), tt) (tt, tt)) $ says ! same $
    nothing ! $ nothing ! $ fjoin ! $ join ! $ move ! (1 ∷ 0 ∷ []) $ join ! $ done !))))))))
