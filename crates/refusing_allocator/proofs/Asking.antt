-- `refuses` and `returns` at a call: what each is handed, a `&` to the counter, the first also a number of bytes; and that the
-- first answers some truth value.
use Rattle.std.proofs.Common.{◌≡◌, ℕ, ◌<◌, ◌^◌, Bool, List, [], ◌∷◌, refl, ap, w64}
use seplogic.Ra.Ura.{Ura}
use mir.Syntax.{Args, a_type, dnil, dcons}
use mir.Val.{Val, vunit, vbool, vint, vptr}
use base.Logic.{SProp, ent, sep, ex, guard, id⊢}
use base.Fml.{Lft, Share, Fml, ftrue, fsep, flft}
use prog.Memory.{Memory}
use prog.Routine.{Routine}
use types.Logic.{Logic, sem}
use contract.Monad.{Fun}
use types.Kit.{‵, ◌⊛◌, raw, some, later, ◌$◌, ◌∵◌, !, qed, move, keep, use1, split, join, pick, fjoin, feq_i, feq_l, flt_i, check, show, await, updating, now as at_once, done}
use denote.Builtin.{bool, unit, RefOf}
use denote.Memory.{hidden_shr}
use denote.Param.{bounded, param}
use denote.Signature.{Slot, plain}
use denote.Steps.{nothing, only}
use denote.Triple.Statement.{Contract}
use denote.Triple.Spec.{triple_of}
use Rattle.std.proofs.alloc.Calls.{Al}
use Rattle.refusing_allocator.specs.contracts.refusing.Refusing as refusing
use Rattle.refusing_allocator.specs.contracts.counter.Counter as counter
use Rattle.refusing_allocator.specs.contracts.counter.refuses as asked
use Rattle.refusing_allocator.specs.contracts.counter.returns as returned

-- what a method is made for: the allocator below
abbrev pub args : Al → Args
args Z = bounded (a_type ∷ []) (Z.row, tt) (dcons Z.d (dcons Z.drops dnil))

-- its first argument, a `&` to the allocator
abbrev pub self : Al → Slot 2
self Z = RefOf (0 ∷ []) tt (plain (λ _. refusing.the_row (param 0 Z.row))) (λ _. tt)

abbrev pub Counts : Type 0
Counts = (counter.the_row).Denot

-- the counter at a place, behind a `&`
abbrev pub counted : Lft → Counts → ℕ × ℕ → Fml
counted κ x c = hidden_shr counter.the_row κ x c.0 c.1

module _ {M : Type 1} {𝓤 : Ura M} (𝓛 : Logic 𝓤) (at_mem : Memory → SProp 𝓤) (run : Routine → Fun 𝓤) where
  abbrev pub Asks : Contract 𝓤
  Asks = triple_of 𝓛 asked.signature (asked.spec 𝓛 at_mem run)

  abbrev pub at_asks : Lft → Share → Counts → ℕ × ℕ → ℕ → Asks.Ghost
  at_asks κ q x c n = (((κ, tt), (q, tt), tt, (record { ref_ptr = c; now = x }, (n, tt)), (vptr c.0 c.1 ∷ [], (vint w64 n ∷ [], tt))), tt)

  abbrev pub Returns : Contract 𝓤
  Returns = triple_of 𝓛 returned.signature (returned.spec 𝓛 at_mem run)

  abbrev pub at_returns : Lft → Share → Counts → ℕ × ℕ → Returns.Ghost
  at_returns κ q x c = (((κ, tt), (q, tt), tt, (record { ref_ptr = c; now = x }, tt), (vptr c.0 c.1 ∷ [], tt)), tt)

module _ {M : Type 1} {𝓤 : Ura M} (𝓛 : Logic 𝓤) (at_mem : Memory → SProp 𝓤) (run : Routine → Fun 𝓤) (κ : Lft) (q : Share) (x : Counts) (c : ℕ × ℕ) (n : ℕ) where
  open 𝓛 use {H, A}

  pub Asks-goes : n < 2 ^ 64 → ent 𝓤 (sep 𝓤 (sem 𝓛 (counted κ x c)) (A.lft κ q)) ((Asks 𝓛 at_mem run).pre (at_asks 𝓛 at_mem run κ q x c n))
  Asks-goes fits =
      qed 𝓛 (‵ (counted κ x c) ∷ ‵ (flft κ q) ∷ []) ∵
      nothing ! $ flt_i ! n (2 ^ 64) fits $ feq_i ! (List Val) (vint w64 n ∷ []) (vint w64 n ∷ []) refl $ fjoin ! $ fjoin ! $
      move ! (1 ∷ []) $ feq_i ! (List Val) (vptr c.0 c.1 ∷ []) (vptr c.0 c.1 ∷ []) refl $ fjoin ! $ fjoin ! $
      nothing ! $ move ! (2 ∷ []) $ join ! $ join ! $ nothing ! $ move ! (1 ∷ []) $ done !

  pub Asks-gives : (v : Val) → ent 𝓤 ((Asks 𝓛 at_mem run).post (at_asks 𝓛 at_mem run κ q x c n) v) (H.⇛ (ex 𝓤 (λ (r : Bool). guard 𝓤 (v ≡ vbool r) (A.lft κ q))))
  Asks-gives v =
      qed 𝓛 (raw ((Asks 𝓛 at_mem run).post (at_asks 𝓛 at_mem run κ q x c n) v) ∷ []) ∵ updating ! $
      use1 𝓛 (later (some (λ (r : Bool). ((‵ (flft κ q) ⊛ ‵ ftrue) ⊛ ‵ (bool.own_val r (v ∷ [])))
      ⊛ some (λ (ws : Unit {0} × (Unit {0} × Unit {0})). ‵ (fsep ftrue (fsep ftrue ftrue)) ⊛ ‵ ftrue)))) (id⊢ 𝓤 _) $ await ! tt $ pick ! (λ r.
      split ! $ split ! $ move ! (1 ∷ []) $ feq_l ! (λ e. split ! $ at_once ! $
      show ! (λ (z : Bool). guard 𝓤 (v ≡ vbool z) (A.lft κ q)) r $ check ! (ap only e) $ keep ! (0 ∷ []) $ done !))

module _ {M : Type 1} {𝓤 : Ura M} (𝓛 : Logic 𝓤) (at_mem : Memory → SProp 𝓤) (run : Routine → Fun 𝓤) (κ : Lft) (q : Share) (x : Counts) (c : ℕ × ℕ) where
  open 𝓛 use {H, A}

  pub Returns-goes : ent 𝓤 (sep 𝓤 (sem 𝓛 (counted κ x c)) (A.lft κ q)) ((Returns 𝓛 at_mem run).pre (at_returns 𝓛 at_mem run κ q x c))
  Returns-goes =
      qed 𝓛 (‵ (counted κ x c) ∷ ‵ (flft κ q) ∷ []) ∵
      feq_i ! (List Val) (vptr c.0 c.1 ∷ []) (vptr c.0 c.1 ∷ []) refl $ fjoin ! $ nothing ! $ move ! (1 ∷ []) $ fjoin ! $
      nothing ! $ move ! (2 ∷ []) $ join ! $ join ! $ nothing ! $ move ! (1 ∷ []) $ done !

  pub Returns-gives : (v : Val) → ent 𝓤 ((Returns 𝓛 at_mem run).post (at_returns 𝓛 at_mem run κ q x c) v) (H.⇛ (guard 𝓤 (v ≡ vunit) (A.lft κ q)))
  Returns-gives v =
      qed 𝓛 (raw ((Returns 𝓛 at_mem run).post (at_returns 𝓛 at_mem run κ q x c) v) ∷ []) ∵ updating ! $
      use1 𝓛 (later (some (λ (r : Unit {0}). ((‵ (flft κ q) ⊛ ‵ ftrue) ⊛ ‵ (unit.own_val r (v ∷ [])))
      ⊛ some (λ (ws : Unit {0} × Unit {0}). ‵ (fsep ftrue ftrue) ⊛ ‵ ftrue)))) (id⊢ 𝓤 _) $ await ! tt $ pick ! (λ r.
      split ! $ split ! $ move ! (1 ∷ []) $ feq_l ! (λ e. split ! $ at_once ! $ check ! (ap only e) $ keep ! (0 ∷ []) $ done !))
