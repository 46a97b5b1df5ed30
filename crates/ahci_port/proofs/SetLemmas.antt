-- PxSACT, PxCI and the device's tags, entry by entry.
use Rattle.std.proofs.Common.{◌≡◌, ◌≢◌, ℕ, ◌<◌, Bool, true, false, cond, ◌==◌, List, ◌∷◌, ap, sym, refl, ◌∙◌, inl, inr}
use Rattle.std.proofs.lemmas.Bool.{true≢false, cond-true, cond-false, eq-eqb, ne_eqb, cases_eq}
use Rattle.ncq_journal.specs.declared.phase.Phase.{Phase}
use Rattle.ncq_journal.specs.declared.phase.Phase.TheVariants.{Free, Issued, Accepted, Done}
use Rattle.ncq_journal.specs.Entry.{Entry, Issue, Accept, Complete, Fail, Recover, Reissue, Collect}
use Rattle.ncq_journal.specs.Phase.{phase, recovered, is_busy, failed}
use Rattle.ncq_journal.specs.Tags.{in_sact, in_ci, sact, ci}
use Rattle.word_bits.specs.Places.{places, no_places, with_place, without_place}
use Rattle.word_bits.proofs.PlacesLemmas.{with_place-places, without_place-places, same_places, places_none}

pub own : {X : Type 0} (t : ℕ) (x y : X) → cond (t == t) x y ≡ x
own t x y = cond-true (t == t) x y (eq-eqb t t refl)

pub other : {X : Type 0} (t u : ℕ) (x y : X) → u ≢ t → cond (t == u) x y ≡ y
other t u x y apart = cond-false (t == u) x y (ne_eqb t u (λ e. apart (sym e)))

-- a phase of which something holds that doesn't hold of a free slot is that of a taken one
pub taken_by : (f : Phase → Bool) → f Free ≡ false → (p : Phase) → f p ≡ true → p ≢ Free
taken_by f free p holds here = true≢false (sym holds ∙ ap f here ∙ free)

-- a set by phase, where one tag's phase alone changes and comes into it
gains : (f : Phase → Bool) (old new : ℕ → Phase) (t : ℕ) → t < 32 → f (new t) ≡ true → ((u : ℕ) → u ≢ t → new u ≡ old u) → with_place (places (λ u. f (old u))) t ≡ places (λ u. f (new u))
gains f old new t below in_set others = with_place-places (λ u. f (old u)) (λ u. f (new u)) t below in_set (λ u low apart. ap f (others u apart))

loses : (f : Phase → Bool) (old new : ℕ → Phase) (t : ℕ) → t < 32 → f (new t) ≡ false → ((u : ℕ) → u ≢ t → new u ≡ old u) → without_place (places (λ u. f (old u))) t ≡ places (λ u. f (new u))
loses f old new t below out others = without_place-places (λ u. f (old u)) (λ u. f (new u)) t below out (λ u low apart. ap f (others u apart))

stays : (f : Phase → Bool) (old new : ℕ → Phase) (t : ℕ) → f (new t) ≡ f (old t) → ((u : ℕ) → u ≢ t → new u ≡ old u) → places (λ u. f (old u)) ≡ places (λ u. f (new u))
stays f old new t same others = same_places (λ u. f (old u)) (λ u. f (new u)) (λ u low. elim (cases_eq u t) [ inl here ↦ rw here (sym same) | inr apart ↦ ap f (sym (others u apart)) ])

pub sact_issue : (past : List Entry) (t : ℕ) (work : _) → t < 32 → with_place (sact past) t ≡ sact (Issue t work ∷ past)
sact_issue past t work below = gains in_sact (phase past) (phase (Issue t work ∷ past)) t below (ap in_sact (own t Issued (phase past t))) (λ u apart. other t u Issued (phase past u) apart)

pub ci_issue : (past : List Entry) (t : ℕ) (work : _) → t < 32 → with_place (ci past) t ≡ ci (Issue t work ∷ past)
ci_issue past t work below = gains in_ci (phase past) (phase (Issue t work ∷ past)) t below (ap in_ci (own t Issued (phase past t))) (λ u apart. other t u Issued (phase past u) apart)

pub sact_reissue : (past : List Entry) (t : ℕ) → t < 32 → with_place (sact past) t ≡ sact (Reissue t ∷ past)
sact_reissue past t below = gains in_sact (phase past) (phase (Reissue t ∷ past)) t below (ap in_sact (own t Issued (phase past t))) (λ u apart. other t u Issued (phase past u) apart)

pub ci_reissue : (past : List Entry) (t : ℕ) → t < 32 → with_place (ci past) t ≡ ci (Reissue t ∷ past)
ci_reissue past t below = gains in_ci (phase past) (phase (Reissue t ∷ past)) t below (ap in_ci (own t Issued (phase past t))) (λ u apart. other t u Issued (phase past u) apart)

pub sact_accept : (past : List Entry) (t : ℕ) → phase past t ≡ Issued → sact past ≡ sact (Accept t ∷ past)
sact_accept past t issued = stays in_sact (phase past) (phase (Accept t ∷ past)) t
    (ap in_sact (own t Accepted (phase past t)) ∙ sym (ap in_sact issued)) (λ u apart. other t u Accepted (phase past u) apart)

pub ci_accept : (past : List Entry) (t : ℕ) → t < 32 → without_place (ci past) t ≡ ci (Accept t ∷ past)
ci_accept past t below = loses in_ci (phase past) (phase (Accept t ∷ past)) t below (ap in_ci (own t Accepted (phase past t))) (λ u apart. other t u Accepted (phase past u) apart)

pub sact_complete : (past : List Entry) (t : ℕ) → t < 32 → without_place (sact past) t ≡ sact (Complete t ∷ past)
sact_complete past t below = loses in_sact (phase past) (phase (Complete t ∷ past)) t below (ap in_sact (own t Done (phase past t))) (λ u apart. other t u Done (phase past u) apart)

pub ci_complete : (past : List Entry) (t : ℕ) → phase past t ≡ Accepted → ci past ≡ ci (Complete t ∷ past)
ci_complete past t accepted = stays in_ci (phase past) (phase (Complete t ∷ past)) t (ap in_ci (own t Done (phase past t)) ∙ sym (ap in_ci accepted)) (λ u apart. other t u Done (phase past u) apart)

-- a command that fails stays in both sets
fails : (p : Phase) → is_busy p ≡ true → (in_sact (failed p) ≡ in_sact p) × (in_ci (failed p) ≡ in_ci p)
fails Issued b = (refl, refl)
fails Accepted b = (refl, refl)
fails _ b = absurd (cc)

pub sact_fail : (past : List Entry) (t error lba : ℕ) → is_busy (phase past t) ≡ true → sact past ≡ sact (Fail t error lba ∷ past)
sact_fail past t error lba busy = stays in_sact (phase past) (phase (Fail t error lba ∷ past)) t
    (ap in_sact (own t (failed (phase past t)) (phase past t)) ∙ (fails (phase past t) busy).0) (λ u apart. other t u (failed (phase past u)) (phase past u) apart)

pub ci_fail : (past : List Entry) (t error lba : ℕ) → is_busy (phase past t) ≡ true → ci past ≡ ci (Fail t error lba ∷ past)
ci_fail past t error lba busy = stays in_ci (phase past) (phase (Fail t error lba ∷ past)) t
    (ap in_ci (own t (failed (phase past t)) (phase past t)) ∙ (fails (phase past t) busy).1) (λ u apart. other t u (failed (phase past u)) (phase past u) apart)

-- a recovery takes every command out of both sets
recovers : (p : Phase) → (in_sact (recovered p) ≡ false) × (in_ci (recovered p) ≡ false)
recovers Free = (refl, refl)
recovers _ = (refl, refl)

pub sact_recover : (past : List Entry) (t : ℕ) → no_places ≡ sact (Recover t ∷ past)
sact_recover past t = sym (places_none (λ u. in_sact (recovered (phase past u))) (λ u low. (recovers (phase past u)).0))

pub ci_recover : (past : List Entry) (t : ℕ) → no_places ≡ ci (Recover t ∷ past)
ci_recover past t = sym (places_none (λ u. in_ci (recovered (phase past u))) (λ u low. (recovers (phase past u)).1))

pub sact_collect : (past : List Entry) (t : ℕ) → phase past t ≡ Done → sact past ≡ sact (Collect t ∷ past)
sact_collect past t done = stays in_sact (phase past) (phase (Collect t ∷ past)) t (ap in_sact (own t Free (phase past t)) ∙ sym (ap in_sact done)) (λ u apart. other t u Free (phase past u) apart)

pub ci_collect : (past : List Entry) (t : ℕ) → phase past t ≡ Done → ci past ≡ ci (Collect t ∷ past)
ci_collect past t done = stays in_ci (phase past) (phase (Collect t ∷ past)) t (ap in_ci (own t Free (phase past t)) ∙ sym (ap in_ci done)) (λ u apart. other t u Free (phase past u) apart)
