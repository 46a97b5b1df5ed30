-- The failed command of a halted port is that of the last Fail, and there is one alone.
use Rattle.std.proofs.Common.{◌≡◌, ◌≢◌, ℕ, ◌<◌, ◌≤◌, Bool, true, false, cond, ◌==◌, List, [], ◌∷◌, ap, sym, refl, ◌∙◌, arith, inl, inr, Option, None, Some, IsSomeAnd}
use Rattle.std.proofs.lemmas.Bool.{cases_eq, cases_lt, true≢false, false≢true}
use Rattle.ncq_journal.specs.declared.phase.Phase.{Phase}
use Rattle.ncq_journal.specs.declared.phase.Phase.TheVariants.{Free, Issued, Accepted, Done}
use Rattle.ncq_journal.specs.Entry.{Entry, Issue, Accept, Complete, Fail, Recover, Reissue, Collect, Unqueued, Zero}
use Rattle.ncq_journal.specs.Halted.{halted}
use Rattle.ncq_journal.specs.Lawful.{IsLawful}
use Rattle.ncq_journal.specs.Phase.{phase, recovered, is_failed, failed}
use Rattle.ncq_journal.proofs.HaltedLemmas.{halted_at, not_halted}
use Rattle.ncq_journal.proofs.PhaseLemmas.{free_past_depth}
use Rattle.ncq_journal.proofs.TagLemmas.{lacks, the_tag, same_tags}
use Rattle.ncq_core.specs.DiskState.{DiskError}
use Rattle.ahci_port.specs.Standing.{last_failure}
use Rattle.ahci_port.proofs.SetLemmas.{own, other}

-- this tag's command is the one that the last Fail names
abbrev pub IsOfTag : ℕ → Option DiskError → Type 0
IsOfTag tag o = IsSomeAnd o (λ f. f.tag ≡ tag)

-- where no tag has failed, none at all has
pub calm_at : (s d : ℕ) (past : List Entry) (u : ℕ) → d ≤ 32 → IsLawful s d past → halted past ≡ false → is_failed (phase past u) ≡ false
calm_at s d past u few lawful calm =
    elim (cases_lt u 32) [
      | inl low ↦ lacks (λ tag. is_failed (phase past tag)) u low calm
      | inr high ↦ ap is_failed (free_past_depth s d past u lawful (omega arith))
    ]

-- an entry of one tag whose new phase is no failed one
calm_own : (past : List Entry) (t u : ℕ) (q : Phase) → is_failed q ≡ false → is_failed (cond (t == u) q (phase past u)) ≡ true → is_failed (phase past u) ≡ true
calm_own past t u q calm h = by (t == u) h
  where
    by : (b : Bool) → is_failed (cond b q (phase past u)) ≡ true → is_failed (phase past u) ≡ true
    by true e = absurd (true≢false (sym e ∙ calm))
    by false e = e

none_after : (p : Phase) → is_failed (recovered p) ≡ false
none_after Free = refl
none_after _ = refl

-- a failed tag is the one that the last Fail names
pub failed_is_last : (s d : ℕ) (past : List Entry) (tag : ℕ) → d ≤ 32 → IsLawful s d past → is_failed (phase past tag) ≡ true → IsOfTag tag (last_failure past)
failed_is_last s d [] tag few lawful h = absurd (false≢true h)
failed_is_last s d (Issue t work ∷ past) tag few lawful h = failed_is_last s d past tag few lawful.0 (calm_own past t tag Issued refl h)
failed_is_last s d (Accept t ∷ past) tag few lawful h = failed_is_last s d past tag few lawful.0 (calm_own past t tag Accepted refl h)
failed_is_last s d (Complete t ∷ past) tag few lawful h = failed_is_last s d past tag few lawful.0 (calm_own past t tag Done refl h)
failed_is_last s d (Fail t error lba ∷ past) tag few lawful h =
    elim (cases_eq tag t) [
      | inl same ↦ sym same
      | inr apart ↦ absurd (true≢false (sym h ∙ ap is_failed (other t tag (failed (phase past tag)) (phase past tag) apart) ∙ calm_at s d past tag few lawful.0 lawful.1.0))
    ]
failed_is_last s d (Recover t ∷ past) tag few lawful h = absurd (true≢false (sym h ∙ none_after (phase past tag)))
failed_is_last s d (Reissue t ∷ past) tag few lawful h = failed_is_last s d past tag few lawful.0 (calm_own past t tag Issued refl h)
failed_is_last s d (Collect t ∷ past) tag few lawful h = failed_is_last s d past tag few lawful.0 (calm_own past t tag Free refl h)
failed_is_last s d (Unqueued command ∷ past) tag few lawful h = failed_is_last s d past tag few lawful.0 h
failed_is_last s d (Zero lba sectors ∷ past) tag few lawful h = failed_is_last s d past tag few lawful.0 h

-- the port is halted once a command has failed
pub halted_fail : (past : List Entry) (t error lba : ℕ) → t < 32 → halted (Fail t error lba ∷ past) ≡ true
halted_fail past t error lba below =
    halted_at (Fail t error lba ∷ past) t below (ap is_failed (own t (failed (phase past t)) (phase past t)) ∙ fails (phase past t))
  where
    fails : (p : Phase) → is_failed (failed p) ≡ true
    fails Free = refl
    fails _ = refl

-- it goes on after a recovery
pub halted_recover : (past : List Entry) (t : ℕ) → halted (Recover t ∷ past) ≡ false
halted_recover past t = not_halted (Recover t ∷ past) (λ u low. none_after (phase past u))

-- an entry of one tag, between two phases that are no failed ones, doesn't halt the port and doesn't start it
pub halted_same : (past : List Entry) (entry : Entry) (t : ℕ) → is_failed (phase past t) ≡ false → is_failed (phase (entry ∷ past) t) ≡ false
    → ((u : ℕ) → u ≢ t → phase (entry ∷ past) u ≡ phase past u) → halted (entry ∷ past) ≡ halted past
halted_same past entry t before after others =
    same_tags (λ u. is_failed (phase (entry ∷ past) u)) (λ u. is_failed (phase past u))
    (λ u low. elim (cases_eq u t) [
      | inl same ↦ ap (λ v. is_failed (phase (entry ∷ past) v)) same ∙ after ∙ sym (ap (λ v. is_failed (phase past v)) same ∙ before)
      | inr apart ↦ ap is_failed (others u apart)
    ])

-- where the port is halted, the last Fail names a failed tag
pub failed_tag : (s d : ℕ) (past : List Entry) → d ≤ 32 → IsLawful s d past → halted past ≡ true → IsSomeAnd (last_failure past) (λ f. is_failed (phase past f.tag) ≡ true)
failed_tag s d past few lawful stopped =
    let found = the_tag (λ tag. is_failed (phase past tag)) stopped in
    at_tag found.0 (last_failure past) (failed_is_last s d past found.0 few lawful found.2) found.2
  where
    at_tag : (tag : ℕ) (o : Option DiskError) → IsOfTag tag o → is_failed (phase past tag) ≡ true → IsSomeAnd o (λ f. is_failed (phase past f.tag) ≡ true)
    at_tag tag None h e = absurd h
    at_tag tag (Some f) h e = ap (λ u. is_failed (phase past u)) h ∙ e
