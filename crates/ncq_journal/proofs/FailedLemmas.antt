-- The one command that has failed, and what the tags below 32 say of all tags.
use Rattle.std.proofs.Common.{◌≡◌, ℕ, ◌≤◌, ◌<◌, Bool, true, false, cond, ◌==◌, List, [], ◌∷◌, ap, sym, refl, ◌∙◌, arith, inl, inr}
use Rattle.std.proofs.lemmas.Bool.{both_ways, cases_lt, false≢true}
use Rattle.ncq_journal.specs.declared.phase.Phase.{Phase}
use Rattle.ncq_journal.specs.declared.phase.Phase.TheVariants.{Free, Issued, Accepted, Done}
use Rattle.ncq_journal.specs.Entry.{Entry, Issue, Accept, Complete, Fail, Recover, Reissue, Collect, Unqueued, Zero}
use Rattle.ncq_journal.specs.Halted.{halted}
use Rattle.ncq_journal.specs.Lawful.{IsLawful}
use Rattle.ncq_journal.specs.Laws.{BusyByATag, HaltedByATag, OneHasFailed}
use Rattle.ncq_journal.specs.Phase.{phase, failed, recovered, is_busy, is_failed}
use Rattle.ncq_journal.proofs.PhaseLemmas.{below_depth, cond_at, free_past_depth}
use Rattle.ncq_journal.proofs.TagLemmas.{lacks, some_tag, the_tag}

-- while the port runs no command has failed
none_failed : (s d : ℕ) (past : List Entry) (tag : ℕ) → d ≤ 32 → IsLawful s d past → halted past ≡ false → is_failed (phase past tag) ≡ false
none_failed s d past tag few h runs =
    elim (cases_lt tag d) [
      | inl low ↦ lacks (λ t. is_failed (phase past t)) tag (omega arith) runs
      | inr high ↦ ap is_failed (free_past_depth s d past tag h high)
    ]

-- a step that fails no command
had_failed : (t tag : ℕ) (q p : Phase) → is_failed q ≡ false → is_failed (cond (t == tag) q p) ≡ true → is_failed p ≡ true
had_failed t tag q p well =
    cond_at t tag q p (λ x. is_failed x ≡ true → is_failed p ≡ true) (λ _ e. absurd (both_ways (is_failed q) well e)) (λ _ e. e)

-- where a command fails, it is the one
it_failed : (s d : ℕ) (past : List Entry) (t tag : ℕ) → d ≤ 32 → IsLawful s d past → halted past ≡ false → is_failed (cond (t == tag) (failed (phase past tag)) (phase past tag)) ≡ true → t ≡ tag
it_failed s d past t tag few h runs =
    cond_at t tag (failed (phase past tag)) (phase past tag) (λ p. is_failed p ≡ true → t ≡ tag) (λ same _. same)
    (λ _ e. absurd (both_ways (is_failed (phase past tag)) (none_failed s d past tag few h runs) e))

recovered_well : (p : Phase) → is_failed (recovered p) ≡ false
recovered_well Free = refl
recovered_well _ = refl

pub one_has_failed : OneHasFailed
one_has_failed s d [] t u few h e f = absurd (false≢true e)
one_has_failed s d (Issue v work ∷ past) t u few h e f =
    one_has_failed s d past t u few h.0 (had_failed v t Issued (phase past t) refl e) (had_failed v u Issued (phase past u) refl f)
one_has_failed s d (Accept v ∷ past) t u few h e f =
    one_has_failed s d past t u few h.0 (had_failed v t Accepted (phase past t) refl e) (had_failed v u Accepted (phase past u) refl f)
one_has_failed s d (Complete v ∷ past) t u few h e f =
    one_has_failed s d past t u few h.0 (had_failed v t Done (phase past t) refl e) (had_failed v u Done (phase past u) refl f)
one_has_failed s d (Fail v error lba ∷ past) t u few h e f = sym (it_failed s d past v t few h.0 h.1.0 e) ∙ it_failed s d past v u few h.0 h.1.0 f
one_has_failed s d (Recover v ∷ past) t u few h e f = absurd (both_ways (is_failed (recovered (phase past t))) (recovered_well (phase past t)) e)
one_has_failed s d (Reissue v ∷ past) t u few h e f =
    one_has_failed s d past t u few h.0 (had_failed v t Issued (phase past t) refl e) (had_failed v u Issued (phase past u) refl f)
one_has_failed s d (Collect v ∷ past) t u few h e f =
    one_has_failed s d past t u few h.0 (had_failed v t Free (phase past t) refl e) (had_failed v u Free (phase past u) refl f)
one_has_failed s d (Unqueued command ∷ past) t u few h e f = one_has_failed s d past t u few h.0 e f
one_has_failed s d (Zero lba sectors ∷ past) t u few h e f = one_has_failed s d past t u few h.0 e f

-- a tag with such a phase is below 32
low_tag : (s d : ℕ) (past : List Entry) (tag : ℕ) (test : Phase → Bool) → test Free ≡ false → d ≤ 32 → IsLawful s d past → test (phase past tag) ≡ true → tag < 32
low_tag s d past tag test free few h e =
    let low : tag < d = below_depth s d past tag (phase past tag) h refl (λ is. both_ways (test (phase past tag)) (ap test is ∙ free) e) in omega arith

pub halted_by_a_tag : HaltedByATag
halted_by_a_tag s d past few h = (
  λ e. let f = the_tag (λ t. is_failed (phase past t)) e in (f.0, f.2),
  λ f. some_tag (λ t. is_failed (phase past t)) f.0 (low_tag s d past f.0 is_failed refl few h f.1) f.1,
)

pub busy_by_a_tag : BusyByATag
busy_by_a_tag s d past few h = (
  λ e. let f = the_tag (λ t. is_busy (phase past t)) e in (f.0, f.2),
  λ f. some_tag (λ t. is_busy (phase past t)) f.0 (low_tag s d past f.0 is_busy refl few h f.1) f.1,
)
