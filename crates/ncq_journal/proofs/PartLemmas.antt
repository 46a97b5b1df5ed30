-- Two parts of a journal with every tag free between them, and sets of tags within one another.
use Rattle.std.proofs.Common.{◌≡◌, ℕ, Bool, true, false, not, ◌&&◌, cond, ◌==◌, List, [], ◌∷◌, ◌++◌, length, ap, sym, refl, subst, ◌∙◌, Option, None, Some, IsSome, IsSomeAnd, arith, inl, inr}
use Rattle.std.proofs.lemmas.Bool.{cases_lt, false≢true}
use Rattle.word_bits.specs.Places.{places, has_place}
use Rattle.word_bits.proofs.PlacesLemmas.{has_place-places, has_place_past, length-places}
use Rattle.ncq_journal.specs.declared.phase.Phase.{Phase}
use Rattle.ncq_journal.specs.declared.phase.Phase.TheVariants.{Free, Issued, Accepted, Held, Done}
use Rattle.ncq_journal.specs.Entry.{Entry, Issue, Accept, Complete, Fail, Recover, Reissue, Collect, Unqueued, Zero}
use Rattle.ncq_journal.specs.Halted.{halted, busy}
use Rattle.ncq_journal.specs.Image.{zeroed}
use Rattle.ncq_journal.specs.Lawful.{IsAllowed, IsLawful, MaySend, Fails, Fits}
use Rattle.ncq_journal.specs.Laws.{AllFree, SectorsFollow, TwoParts, DeviceTagsInSact, CiInSact}
use Rattle.ncq_journal.specs.Phase.{phase, phase_after, is_failed, is_busy}
use Rattle.ncq_journal.specs.Request.{Request, request}
use Rattle.ncq_journal.specs.Sector.{sector, completed}
use Rattle.ncq_journal.specs.Tags.{in_sact, in_ci, in_device}
use Rattle.ncq_journal.specs.Work.{Work}
use Rattle.ncq_journal.proofs.PhaseLemmas.{owned_has_request, fails_not_free}
use Rattle.ncq_journal.proofs.TagLemmas.{same_tags}

pub phase_parts : (later past : List Entry) (tag : ℕ) → AllFree past → phase (later ++ past) tag ≡ phase later tag
phase_parts [] past tag free = free tag
phase_parts (entry ∷ later) past tag free = ap (λ p. phase_after tag p entry) (phase_parts later past tag free)

pub halted_parts : (later past : List Entry) → AllFree past → halted (later ++ past) ≡ halted later
halted_parts later past free =
    same_tags (λ t. is_failed (phase (later ++ past) t)) (λ t. is_failed (phase later t)) (λ t _. ap is_failed (phase_parts later past t free))

pub busy_parts : (later past : List Entry) → AllFree past → busy (later ++ past) ≡ busy later
busy_parts later past free =
    same_tags (λ t. is_busy (phase (later ++ past) t)) (λ t. is_busy (phase later t)) (λ t _. ap is_busy (phase_parts later past t free))

-- the command of a request, if there is one
abbrev pub command : Option Request → Option Work
command None = None
command (Some r) = Some r.work

command_issue : (b : Bool) (r q : Request) (o p : Option Request) → r.work ≡ q.work → IsSome (cond b (Some q) p)
    → (IsSome p → command o ≡ command p) → command (cond b (Some r) o) ≡ command (cond b (Some q) p)
command_issue true r q o p same some older = ap Some same
command_issue false r q o p same some older = older some

pub command_parts : (later past : List Entry) (tag : ℕ) → IsSome (request later tag) → command (request (later ++ past) tag) ≡ command (request later tag)
command_parts [] past tag some = absurd (false≢true some)
command_parts (Issue t work ∷ later) past tag some =
    command_issue (t == tag) (record { number = length (later ++ past); work = work }) (record { number = length later; work = work })
    (request (later ++ past) tag) (request later tag) refl some (command_parts later past tag)
command_parts (Accept t ∷ later) past tag some = command_parts later past tag some
command_parts (Complete t ∷ later) past tag some = command_parts later past tag some
command_parts (Fail t error lba ∷ later) past tag some = command_parts later past tag some
command_parts (Recover t ∷ later) past tag some = command_parts later past tag some
command_parts (Reissue t ∷ later) past tag some = command_parts later past tag some
command_parts (Collect t ∷ later) past tag some = command_parts later past tag some
command_parts (Unqueued c ∷ later) past tag some = command_parts later past tag some
command_parts (Zero lba sectors ∷ later) past tag some = command_parts later past tag some

pub same_command : (P : Work → Type 0) (o p : Option Request) → command o ≡ command p → IsSomeAnd o (λ r. P r.work) → IsSomeAnd p (λ r. P r.work)
same_command P None p e h = absurd h
same_command P (Some r) None e h = absurd (cc)
same_command P (Some r) (Some q) e h = subst P (let s : r.work ≡ q.work = cc in s) h

same_completed : (o p : Option Request) (i : ℕ) (x : List ℕ) → command o ≡ command p → completed o i x ≡ completed p i x
same_completed None None i x e = refl
same_completed None (Some q) i x e = absurd (cc)
same_completed (Some r) None i x e = absurd (cc)
same_completed (Some r) (Some q) i x e =
    let s : r.work ≡ q.work = cc in ap (λ w. completed (Some (record { number = 0; work = w })) i x) s

may_send_parts : (later past : List Entry) → AllFree past → MaySend (later ++ past) → MaySend later
may_send_parts later past free h = (sym (halted_parts later past free) ∙ h.0, sym (busy_parts later past free) ∙ h.1)

allowed_parts : (s d : ℕ) (later past : List Entry) (entry : Entry) → AllFree past → IsLawful s d later → IsAllowed s d (later ++ past) entry → IsAllowed s d later entry
allowed_parts s d later past (Issue t work) free own h = (h.0, sym (phase_parts later past t free) ∙ h.1, sym (halted_parts later past free) ∙ h.2, h.3)
allowed_parts s d later past (Accept t) free own h =
    let at = sym (phase_parts later past t free) ∙ h.0 in
    let some = owned_has_request s d later t own (λ e. absurd (let z : Free ≡ Issued = sym e ∙ at in cc)) in
    (at, sym (halted_parts later past free) ∙ h.1, same_command (Fits s) (request (later ++ past) t) (request later t) (command_parts later past t some) h.2)
allowed_parts s d later past (Complete t) free own h = (sym (phase_parts later past t free) ∙ h.0, sym (halted_parts later past free) ∙ h.1)
allowed_parts s d later past (Fail t error lba) free own h =
    let at = phase_parts later past t free in
    let owned = fails_not_free s (request (later ++ past) t) (phase (later ++ past) t) error lba h.1 in
    let some = owned_has_request s d later t own (λ e. owned (at ∙ e)) in
    let here = subst (λ p. IsSomeAnd (request (later ++ past) t) (λ r. Fails s p r.work error lba)) at h.1 in
    (sym (halted_parts later past free) ∙ h.0, same_command (λ w. Fails s (phase later t) w error lba) (request (later ++ past) t) (request later t) (command_parts later past t some) here)
allowed_parts s d later past (Recover t) free own h = ap is_failed (sym (phase_parts later past t free)) ∙ h
allowed_parts s d later past (Reissue t) free own h = (sym (phase_parts later past t free) ∙ h.0, sym (halted_parts later past free) ∙ h.1)
allowed_parts s d later past (Collect t) free own h = sym (phase_parts later past t free) ∙ h
allowed_parts s d later past (Unqueued c) free own h = (h.0, may_send_parts later past free h.1)
allowed_parts s d later past (Zero lba sectors) free own h = (h.0, may_send_parts later past free h.1)

pub lawful_parts : (s d : ℕ) (later past : List Entry) → IsLawful s d (later ++ past) → AllFree past → IsLawful s d later
lawful_parts s d [] past h free = tt
lawful_parts s d (entry ∷ later) past h free =
    let own = lawful_parts s d later past h.0 free in (own, allowed_parts s d later past entry free own h.1)

-- the sectors after a journal of its own, which comes after any other: its commands are its own
pub sector_following : SectorsFollow
sector_following s d image middle [] past h cut i = sym (cut i)
sector_following s d image middle (Complete t ∷ later) past h cut i =
    let some = owned_has_request s d later t h.0 (λ e. absurd (let z : Free ≡ Accepted = sym e ∙ h.1.0 in cc)) in
    ap (completed (request (later ++ past) t) i) (sector_following s d image middle later past h.0 cut i)
    ∙ same_completed (request (later ++ past) t) (request later t) i (sector middle later i) (command_parts later past t some)
sector_following s d image middle (Issue t work ∷ later) past h cut i = sector_following s d image middle later past h.0 cut i
sector_following s d image middle (Accept t ∷ later) past h cut i = sector_following s d image middle later past h.0 cut i
sector_following s d image middle (Fail t error lba ∷ later) past h cut i = sector_following s d image middle later past h.0 cut i
sector_following s d image middle (Recover t ∷ later) past h cut i = sector_following s d image middle later past h.0 cut i
sector_following s d image middle (Reissue t ∷ later) past h cut i = sector_following s d image middle later past h.0 cut i
sector_following s d image middle (Collect t ∷ later) past h cut i = sector_following s d image middle later past h.0 cut i
sector_following s d image middle (Unqueued c ∷ later) past h cut i = sector_following s d image middle later past h.0 cut i
sector_following s d image middle (Zero lba sectors ∷ later) past h cut i = ap (zeroed lba sectors i) (sector_following s d image middle later past h.0 cut i)

pub two_parts : TwoParts
two_parts s d image middle later past h free cut =
    let own = lawful_parts s d later past h free in (own, sector_following s d image middle later past own cut)

places_within : (p q : ℕ → Bool) (tag : ℕ) → ((t : ℕ) → p t ≡ true → q t ≡ true) → has_place (places p) tag ≡ true → has_place (places q) tag ≡ true
places_within p q tag each h =
    elim (cases_lt tag 32) [
      | inl low ↦ has_place-places q tag low ∙ each tag (sym (has_place-places p tag low) ∙ h)
      | inr high ↦ absurd (false≢true (sym (has_place_past (places p) tag (let l : length (places p) ≡ 32 = length-places p in omega arith)) ∙ h))
    ]

device_in_sact : (p : Phase) (b : Bool) → (in_device p && b) ≡ true → in_sact p ≡ true
device_in_sact Free b e = absurd (false≢true e)
device_in_sact Held b e = absurd (false≢true e)
device_in_sact Done b e = absurd (false≢true e)
device_in_sact _ b e = refl

ci_in_sact : (p : Phase) → in_ci p ≡ true → in_sact p ≡ true
ci_in_sact Free e = absurd (false≢true e)
ci_in_sact Held e = absurd (false≢true e)
ci_in_sact Done e = absurd (false≢true e)
ci_in_sact _ e = refl

pub device_tags_in_sact : DeviceTagsInSact
device_tags_in_sact past tag = places_within (λ t. in_device (phase past t) && not (halted past)) (λ t. in_sact (phase past t)) tag (λ t e. device_in_sact (phase past t) (not (halted past)) e)

pub ci_tags_in_sact : CiInSact
ci_tags_in_sact past tag = places_within (λ t. in_ci (phase past t)) (λ t. in_sact (phase past t)) tag (λ t e. ci_in_sact (phase past t) e)
