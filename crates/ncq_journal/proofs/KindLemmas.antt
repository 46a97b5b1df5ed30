-- Events by their kinds, and what one pass over a journal knows of each tag.
use Rattle.std.proofs.Common.{◌≡◌, ◌≢◌, ℕ, ◌+◌, ◌*◌, ◌/◌, ◌==◌, ◌<◌, ◌≤◌, ◌||◌, Bool, true, false, cond, List, [], ◌∷◌, ◌++◌, length, map, take, get_or, replicate, Option, Some, IsSomeAnd, ap, refl, subst, sym, zero-add, ◌∙◌, arith}
use mathlib.Core.List.{reverse}
use Rattle.std.specs.List.{list_any, range_with_len}
use Rattle.std.specs.Option.{option_map}
use Rattle.std.proofs.lemmas.List.FromFn.{get_or-map-range_with_len, length-map-range_with_len}
use Rattle.std.proofs.lemmas.List.{ext_get_or, get_or-replicate, length-replicate, map-append, reverse-append, take_all, take_more}
use Rattle.std.proofs.lemmas.Option.{slice_get_read}
use Rattle.ncq_journal.specs.Entry.{Entry, Issue, Accept, Complete, Fail, Recover, Reissue, Collect, Unqueued, Zero}
use Rattle.ncq_journal.specs.Halted.{busy, halted, tags}
use Rattle.ncq_journal.specs.declared.phase.Phase.{Phase}
use Rattle.ncq_journal.specs.declared.phase.Phase.TheVariants.{Free, Issued, Accepted, Held, Done}
use Rattle.ncq_journal.specs.Phase.{is_busy, is_failed, phase, phase_after}
use Rattle.ncq_journal.specs.Request.{Request, request}
use Rattle.ncq_journal.specs.Work.{sectors_of}
use Rattle.ncq_journal.specs.Lawful.{IsAllowed, IsLawful}
use Rattle.ncq_journal.specs.EventKind.{HasLowTag, IsFirstUnlawful, entry_of_kind, journal_of, kind_of, work_over}
use Rattle.ncq_journal.specs.TagState.{AreStates, has_failed, is_waiting, state_of, state_after, no_state, span_after, span_of}
use Rattle.ncq_journal.specs.declared.event_kind.EventKind.{EventKind}
use Rattle.ncq_journal.specs.declared.event_kind.EventKind.TheVariants as kind
use Rattle.ncq_journal.specs.declared.tag_state.TagState.{TagState}
use Rattle.ncq_journal.specs.declared.tag_state.Span.{Span}
use Rattle.ncq_journal.proofs.PhaseLemmas.{below_depth, fails_not_free, recovered_not_free}

-- a command is over its sectors
pub sectors_over : (is_write : Bool) (lba sectors : ℕ) → sectors_of (work_over is_write lba sectors) ≡ sectors
sectors_over true lba sectors = ap (λ n. n / 512) (length-replicate (512 * sectors) 0) ∙ omega arith
sectors_over false lba sectors = refl

pub span_of_kind : (is_write : Bool) (span : Span) → span_of (work_over is_write span.lba span.sectors) ≡ span
span_of_kind true span = ap (λ n. record { lba = span.lba; sectors = n }) (sectors_over true span.lba span.sectors)
span_of_kind false span = refl

-- the sectors of a tag's last command, after a choice by two tags
span_if : (b : Bool) (r : Request) (o : Option Request) → cond b (Some (span_of r.work)) (option_map (λ q. span_of q.work) o) ≡ option_map (λ q. span_of q.work) (cond b (Some r) o)
span_if true r o = refl
span_if false r o = refl

span_next : (past : List Entry) (tag : ℕ) (entry : Entry)
    → span_after tag (option_map (λ r. span_of r.work) (request past tag)) entry ≡ option_map (λ r. span_of r.work) (request (entry ∷ past) tag)
span_next past tag (Issue t work) = span_if (t == tag) (record { number = length past; work = work }) (request past tag)
span_next past tag (Accept t) = refl
span_next past tag (Complete t) = refl
span_next past tag (Fail t error lba) = refl
span_next past tag (Recover t) = refl
span_next past tag (Reissue t) = refl
span_next past tag (Collect t) = refl
span_next past tag (Unqueued command) = refl
span_next past tag (Zero lba sectors) = refl

-- what is known of a tag after one more entry
pub state_next : (past : List Entry) (tag : ℕ) (entry : Entry) → state_after tag (state_of past tag) entry ≡ state_of (entry ∷ past) tag
state_next past tag entry = ap (λ s. record { phase = phase_after tag (phase past tag) entry; span = s }) (span_next past tag entry)

-- before the first entry nothing is known of any tag
pub no_states : AreStates [] (replicate 32 no_state)
no_states = record { long = refl; each = λ tag low. get_or-replicate 32 tag no_state no_state low }

-- a test of what is mapped
any_mapped : {X Y : Type 0} (p : Y → Bool) (f : X → Y) (xs : List X) → list_any p (map f xs) ≡ list_any (λ x. p (f x)) xs
any_mapped p f [] = refl
any_mapped p f (x ∷ xs) = ap (λ b. p (f x) || b) (any_mapped p f xs)

-- the phases that are known are those of the 32 tags
some_known : (p : Phase → Bool) (past : List Entry) (all : List TagState) → AreStates past all → list_any (λ k. p k.phase) all ≡ list_any (λ tag. p (phase past tag)) tags
unfolding tags
some_known p past all are =
    ap (list_any (λ k. p k.phase))
    (ext_get_or no_state all (map (state_of past) (range_with_len 0 32)) (are.long ∙ sym (length-map-range_with_len (state_of past) 0 32))
    (λ tag low. let below : tag < 32 = let long = are.long in omega arith in are.each tag below ∙ sym (get_or-map-range_with_len (state_of past) 0 32 tag tag no_state below (zero-add tag))))
    ∙ any_mapped (λ k. p k.phase) (state_of past) (range_with_len 0 32)

pub halted_known : (past : List Entry) (all : List TagState) → AreStates past all → list_any has_failed all ≡ halted past
halted_known past all are = some_known is_failed past all are

pub busy_known : (past : List Entry) (all : List TagState) → AreStates past all → list_any is_waiting all ≡ busy past
busy_known past all are = some_known is_busy past all are

-- an event more is an entry more
journal_push : {X : Type 0} (says : X → EventKind) (events : List X) (event : X) → journal_of says (events ++ event ∷ []) ≡ entry_of_kind (says event) ∷ journal_of says events
journal_push says events event =
    ap reverse (map-append (λ e. entry_of_kind (says e)) events (event ∷ [])) ∙ reverse-append (map (λ e. entry_of_kind (says e)) events) (entry_of_kind (says event) ∷ [])

-- the step of a pass
pub journal_more : {X : Type 0} (says : X → EventKind) (events : List X) (i : ℕ) (event : X) → i < length events → event ≡ get_or events i event
    → journal_of says (take (i + 1) events) ≡ entry_of_kind (says event) ∷ journal_of says (take i events)
journal_more says events i event h e =
    ap (journal_of says) (take_more events i event h) ∙ journal_push says (take i events) (get_or events i event)
    ∙ ap (λ x. entry_of_kind (says x) ∷ journal_of says (take i events)) (sym e)

-- the end of a pass
pub journal_all : {X : Type 0} (says : X → EventKind) (events : List X) (n : ℕ) → length events ≤ n → journal_of says (take n events) ≡ journal_of says events
journal_all says events n h = ap (journal_of says) (take_all n events h)

-- what the events so far leave is what the pass keeps
pub record IsPassed {X : Type 0} (says : X → EventKind) (s d : ℕ) (events : List X) (place : ℕ) (tags : List TagState) : Type 0 where
  pub known : AreStates (journal_of says (take place events)) tags
  pub lawful : IsLawful s d (journal_of says (take place events))

-- an event that may come has come
pub passed_more : {X : Type 0} (says : X → EventKind) (s d : ℕ) (events : List X) (i : ℕ) (event : X) (tags next : List TagState) → i < length events → event ≡ get_or events i event
    → IsPassed says s d events i tags → IsAllowed s d (journal_of says (take i events)) (entry_of_kind (says event))
    → AreStates (entry_of_kind (says event) ∷ journal_of says (take i events)) next → IsPassed says s d events (i + 1) next
passed_more says s d events i event tags next low is so_far may then =
    let more = sym (journal_more says events i event low is) in
    record { known = subst (λ past. AreStates past next) more then; lawful = subst (IsLawful s d) more (so_far.lawful, may) }

-- all have come
pub passed_all : {X : Type 0} (says : X → EventKind) (s d : ℕ) (events : List X) (i : ℕ) (tags : List TagState) → length events ≤ i → IsPassed says s d events i tags
    → IsLawful s d (journal_of says events)
passed_all says s d events i tags done so_far = subst (IsLawful s d) (journal_all says events i done) so_far.lawful

-- one that can't come is the first
pub first_unlawful : {X : Type 0} (says : X → EventKind) (s d : ℕ) (events : List X) (i : ℕ) (event : X) (tags : List TagState) → i < length events → event ≡ get_or events i event
    → IsPassed says s d events i tags → ¬ IsAllowed s d (journal_of says (take i events)) (entry_of_kind (says event)) → IsFirstUnlawful says s d events i
first_unlawful says s d events i event tags low is so_far bad = record {
  before = so_far.lawful;
  here = subst (λ found. IsSomeAnd found (λ e. ¬ IsAllowed s d (journal_of says (take i events)) (entry_of_kind (says e))))
      (sym (slice_get_read events (length events) i event refl low is)) bad;
}

-- a phase after an event depends on its kind alone
pub phase_after_of_kind : (tag : ℕ) (p : Phase) (entry : Entry) → phase_after tag p (entry_of_kind (kind_of entry)) ≡ phase_after tag p entry
phase_after_of_kind tag p (Issue t work) = refl
phase_after_of_kind tag p (Accept t) = refl
phase_after_of_kind tag p (Complete t) = refl
phase_after_of_kind tag p (Fail t error lba) = refl
phase_after_of_kind tag p (Recover t) = refl
phase_after_of_kind tag p (Reissue t) = refl
phase_after_of_kind tag p (Collect t) = refl
phase_after_of_kind tag p (Unqueued command) = refl
phase_after_of_kind tag p (Zero lba sectors) = refl

-- a tag of which an event speaks that may come is below the depth
in_phase : (s d : ℕ) (past : List Entry) (tag : ℕ) (p : Phase) → IsLawful s d past → d ≤ 32 → phase past tag ≡ p → p ≢ Free → tag < 32
in_phase s d past tag p lawful most is taken = let below : tag < d = below_depth s d past tag p lawful is taken in omega arith

pub allowed_is_low : (s d : ℕ) (past : List Entry) (k : EventKind) → IsLawful s d past → d ≤ 32 → IsAllowed s d past (entry_of_kind k) → HasLowTag k
allowed_is_low s d past (kind.Issue tag write lba sectors) lawful most may = let below : tag < d = may.0 in omega arith
allowed_is_low s d past (kind.Accept tag) lawful most may = in_phase s d past tag Issued lawful most may.0 (λ e. absurd (cc))
allowed_is_low s d past (kind.Complete tag) lawful most may = in_phase s d past tag Accepted lawful most may.0 (λ e. absurd (cc))
allowed_is_low s d past (kind.Fail tag error lba) lawful most may =
    in_phase s d past tag (phase past tag) lawful most refl (fails_not_free s (request past tag) (phase past tag) error lba may.1)
allowed_is_low s d past (kind.Recover tag) lawful most may = in_phase s d past tag (phase past tag) lawful most refl (recovered_not_free (phase past tag) may)
allowed_is_low s d past (kind.Reissue tag) lawful most may = in_phase s d past tag Held lawful most may.0 (λ e. absurd (cc))
allowed_is_low s d past (kind.Collect tag) lawful most may = in_phase s d past tag Done lawful most may (λ e. absurd (cc))
allowed_is_low s d past (kind.Plain command) lawful most may = tt
allowed_is_low s d past (kind.Zero lba sectors) lawful most may = tt
