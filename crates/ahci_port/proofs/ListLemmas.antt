-- Lists of tags that are served together.
use Rattle.std.proofs.Common.{◌≡◌, ◌≢◌, ℕ, zero, suc, ◌+◌, ◌<◌, Bool, true, false, ◌||◌, cond, List, [], ◌∷◌, length, take, ap, sym, refl, ◌∙◌, None, Some, arith}
use Rattle.std.specs.List.{fold, list_any}
use Rattle.std.specs.Prelude.{nat_eq, slice_index}
use Rattle.std.proofs.lemmas.Bool.{eq-eqb, true≢false}
use Rattle.std.proofs.lemmas.List.Sums.{AllPass-from_list_all}
use Rattle.arrayvec.specs.ArrayVec.{ArrayVec}
use Rattle.ncq_journal.specs.declared.phase.Phase.TheVariants.{Accepted}
use Rattle.ncq_journal.specs.Entry.{Entry}
use Rattle.ncq_journal.specs.Halted.{halted}
use Rattle.ncq_journal.specs.Phase.{phase}
use Rattle.ahci_port.specs.Faults.{is_accepted, are_accepted, is_bad_list, names_twice, step_refusal}
use Rattle.ahci_port.specs.PortView.{PortView}
use Rattle.ahci_port.specs.declared.fault.StepFault.TheVariants as fault
use Rattle.ahci_port.specs.declared.step.DeviceStep.TheVariants as step
use Rattle.ahci_port.proofs.StepLemmas.{accepted_is}

-- a fold over one element more
fold_further : {X : Type 0} (f : X → ℕ → X) (x : X) (list : List ℕ) (i : ℕ) → i < length list → fold f x (take (suc i) list) ≡ f (fold f x (take i list)) (slice_index list i)
fold_further f x [] i low = absurd (omega arith)
fold_further f x (y ∷ list) zero low = refl
fold_further f x (y ∷ list) (suc i) low = fold_further f (f x y) list i (omega arith)

pub fold_next : {X : Type 0} (f : X → ℕ → X) (x : X) (list : List ℕ) (i : ℕ) → i < length list → fold f x (take (i + 1) list) ≡ f (fold f x (take i list)) (slice_index list i)
fold_next f x list i low = let next : i + 1 ≡ suc i = omega arith in ap (λ n. fold f x (take n list)) next ∙ fold_further f x list i low

neither : (a b : Bool) → (a || b) ≡ false → (a ≡ false) × (b ≡ false)
neither true b e = absurd (true≢false e)
neither false b e = (refl, e)

none_there : (tag : ℕ) (tags : List ℕ) (k : ℕ) → list_any (λ other. nat_eq other tag) tags ≡ false → k < length tags → slice_index tags k ≢ tag
none_there tag [] k e low same = absurd (omega arith)
none_there tag (t ∷ tags) zero e low same = true≢false (sym (eq-eqb t tag same) ∙ (neither (nat_eq t tag) (list_any (λ other. nat_eq other tag) tags) e).0)
none_there tag (t ∷ tags) (suc k) e low same = none_there tag tags k (neither (nat_eq t tag) (list_any (λ other. nat_eq other tag) tags) e).1 (omega arith) same

-- no two tags of a list are the same
abbrev pub AreApart : List ℕ → Type 0
AreApart tags = (i k : ℕ) → i < k → k < length tags → slice_index tags i ≢ slice_index tags k

named_once : (tags : List ℕ) → names_twice tags ≡ false → AreApart tags
named_once [] e i k l low same = absurd (omega arith)
named_once (t ∷ tags) e zero zero l low same = absurd (omega arith)
named_once (t ∷ tags) e (suc i) zero l low same = absurd (omega arith)
named_once (t ∷ tags) e zero (suc k) l low same = none_there t tags k (neither (list_any (λ other. nat_eq other t) tags) (names_twice tags) e).0 (omega arith) (sym same)
named_once (t ∷ tags) e (suc i) (suc k) l low same = named_once tags (neither (list_any (λ other. nat_eq other t) tags) (names_twice tags) e).1 i k (omega arith) (omega arith) same

-- what no fault of a Serve says of its tags
pub record MayServe (past : List Entry) (tags : List ℕ) : Type 0 where
  pub running : halted past ≡ false
  pub accepted : (k : ℕ) → k < length tags → phase past (slice_index tags k) ≡ Accepted
  pub apart : AreApart tags

pub serve_may : (port : PortView) (tags : ArrayVec ℕ) → step_refusal port (step.Serve tags) ≡ None → MayServe port.past tags.items
serve_may port tags e = by (halted port.past) (are_accepted port.past tags.items) (is_bad_list tags.items) refl refl refl e
  where
    by : (a b c : Bool) → halted port.past ≡ a → are_accepted port.past tags.items ≡ b → is_bad_list tags.items ≡ c
        → cond a (Some fault.Halted) (cond b (cond c (Some fault.BadTags) None) (Some fault.NotAccepted)) ≡ None → MayServe port.past tags.items
    by true b c h i j m = absurd (cc)
    by false true true h i j m = absurd (cc)
    by false true false h i j m = record {
      running = h;
      accepted = λ k low. accepted_is (phase port.past (slice_index tags.items k)) (AllPass-from_list_all (λ t. is_accepted (phase port.past t)) tags.items i k 0 low);
      apart = named_once tags.items (neither (nat_eq (length tags.items) 0) (names_twice tags.items) j).1;
    }
    by false false c h i j m = absurd (cc)
