-- What the later of two parts of a journal, with every tag free between them, knows of the earlier one.
use Rattle.std.proofs.Common.{◌≡◌, ℕ, ◌+◌, ◌<◌, Bool, true, false, not, ◌&&◌, cond, ◌==◌, List, [], ◌∷◌, ◌++◌, length, ap, sym, refl, subst, ◌∙◌, Option, None, Some, is_some, IsSomeAnd, arith, suc, length-append}
use mathlib.Core.List.{reverse}
use Rattle.std.specs.List.{flat_map, range_with_len, slice_get}
use Rattle.std.specs.Option.{option_map, option_or}
use Rattle.std.proofs.lemmas.Bool.{false≢true}
use Rattle.std.proofs.lemmas.List.{reverse-append, length-reverse}
use Rattle.std.proofs.lemmas.Option.{none-some}
use Rattle.ncq_journal.specs.declared.phase.Phase.TheVariants.{Free, Issued}
use Rattle.ncq_journal.specs.declared.outcome.Outcome.TheVariants as outcome
use Rattle.ncq_journal.specs.Answer.{Answer, answer, completes, given}
use Rattle.ncq_journal.specs.Entry.{Entry, Issue, Accept, Complete, Fail, Recover, Reissue, Collect, Unqueued, Zero}
use Rattle.ncq_journal.specs.Halted.{halted}
use Rattle.ncq_journal.specs.History.{entry_at}
use Rattle.ncq_journal.specs.Lawful.{IsAllowed, IsLawful, MaySend, Fails, Fits}
use Rattle.ncq_journal.specs.Laws.{AllFree, is_answered, SaidOfLater, LawfulOfParts, AnswersFollow, AnswersStay, RequestOfParts, AnswerOfParts, AnswerOfEarlier}
use Rattle.ncq_journal.specs.Numbering.{request_numbered, answer_numbered}
use Rattle.ncq_journal.specs.Owed.{owed, owed_in}
use Rattle.ncq_journal.specs.Phase.{phase, is_failed}
use Rattle.ncq_journal.specs.Request.{Request, request}
use Rattle.ncq_journal.specs.Sector.{sector}
use Rattle.ncq_journal.specs.Tags.{sact, ci, device_tags, in_sact, in_ci, in_device}
use Rattle.ncq_journal.specs.Work.{Work, Read, Write}
use Rattle.word_bits.proofs.PlacesLemmas.{same_places}
use Rattle.ncq_journal.proofs.AnsweredLemmas.{answered_by_phase, given_none, no_answer_yet, unanswered_is_last}
use Rattle.ncq_journal.proofs.EntryLemmas.{slice_get-front}
use Rattle.ncq_journal.proofs.PartLemmas.{phase_parts, halted_parts, busy_parts, command_parts, same_command, lawful_parts, sector_following}
use Rattle.ncq_journal.proofs.PhaseLemmas.{owned_has_request, fails_not_free}
use Rattle.ncq_journal.proofs.TagLemmas.{sum_same}

-- what a tag's phase alone decides, each tag of both parts decides as after the later one
pub sact_of_parts : SaidOfLater sact
sact_of_parts later past free = same_places (λ t. in_sact (phase (later ++ past) t)) (λ t. in_sact (phase later t)) (λ t low. ap in_sact (phase_parts later past t free))

pub ci_of_parts : SaidOfLater ci
ci_of_parts later past free = same_places (λ t. in_ci (phase (later ++ past) t)) (λ t. in_ci (phase later t)) (λ t low. ap in_ci (phase_parts later past t free))

pub device_tags_of_parts : SaidOfLater device_tags
device_tags_of_parts later past free =
    same_places (λ t. in_device (phase (later ++ past) t) && not (halted (later ++ past))) (λ t. in_device (phase later t) && not (halted later))
    (λ t low. ap (λ p. in_device p && not (halted (later ++ past))) (phase_parts later past t free) ∙ ap (λ b. in_device (phase later t) && not b) (halted_parts later past free))

pub owed_of_parts : SaidOfLater owed
owed_of_parts later past free = sum_same (λ t. owed_in (phase later t)) (λ t. owed_in (phase (later ++ past) t)) (λ t. ap owed_in (phase_parts later past t free))

may_send_whole : (later past : List Entry) → AllFree past → MaySend later → MaySend (later ++ past)
may_send_whole later past free h = (halted_parts later past free ∙ h.0, busy_parts later past free ∙ h.1)

allowed_whole : (s d : ℕ) (later past : List Entry) (entry : Entry) → AllFree past → IsLawful s d later → IsAllowed s d later entry → IsAllowed s d (later ++ past) entry
allowed_whole s d later past (Issue t work) free own h = (h.0, phase_parts later past t free ∙ h.1, halted_parts later past free ∙ h.2, h.3)
allowed_whole s d later past (Accept t) free own h =
    let some = owned_has_request s d later t own (λ e. absurd (let z : Free ≡ Issued = sym e ∙ h.0 in cc)) in
    (phase_parts later past t free ∙ h.0, halted_parts later past free ∙ h.1, same_command (Fits s) (request later t) (request (later ++ past) t) (sym (command_parts later past t some)) h.2)
allowed_whole s d later past (Complete t) free own h = (phase_parts later past t free ∙ h.0, halted_parts later past free ∙ h.1)
allowed_whole s d later past (Fail t error lba) free own h =
    let owned = fails_not_free s (request later t) (phase later t) error lba h.1 in
    let some = owned_has_request s d later t own owned in
    let there = same_command (λ w. Fails s (phase later t) w error lba) (request later t) (request (later ++ past) t) (sym (command_parts later past t some)) h.1 in
    (halted_parts later past free ∙ h.0, subst (λ p. IsSomeAnd (request (later ++ past) t) (λ r. Fails s p r.work error lba)) (sym (phase_parts later past t free)) there)
allowed_whole s d later past (Recover t) free own h = ap is_failed (phase_parts later past t free) ∙ h
allowed_whole s d later past (Reissue t) free own h = (phase_parts later past t free ∙ h.0, halted_parts later past free ∙ h.1)
allowed_whole s d later past (Collect t) free own h = phase_parts later past t free ∙ h
allowed_whole s d later past (Unqueued c) free own h = (h.0, may_send_whole later past free h.1)
allowed_whole s d later past (Zero lba sectors) free own h = (h.0, may_send_whole later past free h.1)

lawful_whole : (s d : ℕ) (later past : List Entry) → IsLawful s d past → AllFree past → IsLawful s d later → IsLawful s d (later ++ past)
lawful_whole s d [] past own free h = own
lawful_whole s d (entry ∷ later) past own free h = (lawful_whole s d later past own free h.0, allowed_whole s d later past entry free h.0 h.1)

pub lawful_of_parts : LawfulOfParts
lawful_of_parts s d later past own free = (λ h. lawful_parts s d later past h free, lawful_whole s d later past own free)

-- a number of both parts is a place of the later one, counted on
length_parts : (later past : List Entry) → length (later ++ past) ≡ length past + length later
length_parts later past = let l : length (later ++ past) ≡ length later + length past = length-append later past in omega arith

request_issue : (b : Bool) (m k n : ℕ) (work : Work) (o p : Option Request) (r : Request) → m ≡ k + n → (p ≡ Some r → o ≡ Some (request_numbered k r))
    → cond b (Some (record { number = n; work = work })) p ≡ Some r → cond b (Some (record { number = m; work = work })) o ≡ Some (request_numbered k r)
request_issue true m k n work o p r at older e = ap (λ i. Some (record { number = i; work = work })) at ∙ ap (option_map (request_numbered k)) e
request_issue false m k n work o p r at older e = older e

pub request_of_parts : RequestOfParts
request_of_parts [] past tag r e = absurd (none-some r e)
request_of_parts (Issue t work ∷ later) past tag r e =
    request_issue (t == tag) (length (later ++ past)) (length past) (length later) work (request (later ++ past) tag) (request later tag) r (length_parts later past)
    (request_of_parts later past tag r) e
request_of_parts (Accept t ∷ later) past tag r e = request_of_parts later past tag r e
request_of_parts (Complete t ∷ later) past tag r e = request_of_parts later past tag r e
request_of_parts (Fail t error lba ∷ later) past tag r e = request_of_parts later past tag r e
request_of_parts (Recover t ∷ later) past tag r e = request_of_parts later past tag r e
request_of_parts (Reissue t ∷ later) past tag r e = request_of_parts later past tag r e
request_of_parts (Collect t ∷ later) past tag r e = request_of_parts later past tag r e
request_of_parts (Unqueued c ∷ later) past tag r e = request_of_parts later past tag r e
request_of_parts (Zero lba sectors ∷ later) past tag r e = request_of_parts later past tag r e

slice_get-after : {X : Type 0} (xs ys : List X) (k : ℕ) → slice_get (xs ++ ys) (length xs + k) ≡ slice_get ys k
slice_get-after [] ys k = ap (slice_get ys) (let e : 0 + k ≡ k = omega arith in e)
slice_get-after (x ∷ xs) ys k = ap (slice_get (x ∷ (xs ++ ys))) (let e : suc (length xs) + k ≡ suc (length xs + k) = omega arith in e) ∙ slice_get-after xs ys k

entry_at-parts : (later past : List Entry) (k : ℕ) → entry_at (later ++ past) (length past + k) ≡ entry_at later k
entry_at-parts later past k =
    ap (λ xs. slice_get xs (length past + k)) (reverse-append later past) ∙ ap (λ n. slice_get (reverse past ++ reverse later) (n + k)) (sym (length-reverse past))
    ∙ slice_get-after (reverse past) (reverse later) k

-- each sector of a run the same
same_sectors : (f g : ℕ → List ℕ) → ((i : ℕ) → f i ≡ g i) → (run : List ℕ) → flat_map f run ≡ flat_map g run
same_sectors f g same [] = refl
same_sectors f g same (i ∷ run) = ap (λ x. x ++ flat_map f run) (same i) ∙ ap (λ x. g i ++ x) (same_sectors f g same run)

completes_parts : (image middle : List ℕ) (later past : List Entry) (work : Work) → ((i : ℕ) → sector image (later ++ past) i ≡ sector middle later i)
    → completes image (later ++ past) work ≡ answer_numbered (length past) (completes middle later work)
completes_parts image middle later past (Read lba sectors) same =
    ap (λ n. record { entry = n; outcome = outcome.Read; bytes = flat_map (sector image (later ++ past)) (range_with_len lba sectors) }) (length_parts later past)
    ∙ ap (λ bs. record { entry = length past + length later; outcome = outcome.Read; bytes = bs }) (same_sectors (sector image (later ++ past)) (sector middle later) same (range_with_len lba sectors))
completes_parts image middle later past (Write lba bytes) same = ap (λ n. record { entry = n; outcome = outcome.Wrote; bytes = [] }) (length_parts later past)

numbered_if : (b : Bool) (k : ℕ) (a own : Answer) → a ≡ answer_numbered k own → cond b (Some a) None ≡ option_map (answer_numbered k) (cond b (Some own) None)
numbered_if true k a own e = ap Some e
numbered_if false k a own e = refl

given_parts : (image middle : List ℕ) (later past : List Entry) (entry : Entry) (issue : Option Entry) → ((i : ℕ) → sector image (later ++ past) i ≡ sector middle later i)
    → given image (later ++ past) entry issue ≡ option_map (answer_numbered (length past)) (given middle later entry issue)
given_parts image middle later past (Complete t) (Some (Issue tag work)) same =
    numbered_if (t == tag) (length past) (completes image (later ++ past) work) (completes middle later work) (completes_parts image middle later past work same)
given_parts image middle later past (Fail t error lba) (Some (Issue tag work)) same =
    numbered_if (t == tag) (length past) (record { entry = length (later ++ past); outcome = outcome.Failed error lba; bytes = [] })
    (record { entry = length later; outcome = outcome.Failed error lba; bytes = [] })
    (ap (λ n. record { entry = n; outcome = outcome.Failed error lba; bytes = [] }) (length_parts later past))
given_parts image middle later past entry issue same = refl

or_numbered : (k : ℕ) (o p : Option Answer) → option_or (option_map (answer_numbered k) o) (option_map (answer_numbered k) p) ≡ option_map (answer_numbered k) (option_or o p)
or_numbered k None p = refl
or_numbered k (Some a) p = refl

pub answer_following : AnswersFollow
answer_following s d image middle [] past place h cut = no_answer_yet image past (length past + place) (omega arith)
answer_following s d image middle (entry ∷ later) past place h cut =
    let k = length past in
    let issue = entry_at later place in
    ap (λ o. option_or o (given image (later ++ past) entry (entry_at (later ++ past) (k + place)))) (answer_following s d image middle later past place h.0 cut)
    ∙ ap (λ e. option_or (option_map (answer_numbered k) (answer middle later place)) (given image (later ++ past) entry e)) (entry_at-parts later past place)
    ∙ ap (option_or (option_map (answer_numbered k) (answer middle later place))) (given_parts image middle later past entry issue (sector_following s d image middle later past h.0 cut))
    ∙ or_numbered k (answer middle later place) (given middle later entry issue)

pub answer_stays : AnswersStay
answer_stays image [] past place a e = e
answer_stays image (entry ∷ later) past place a e =
    ap (λ o. option_or o (given image (later ++ past) entry (entry_at (later ++ past) place))) (answer_stays image later past place a e)

pub answer_of_parts : AnswerOfParts
answer_of_parts s d image middle later past place h free cut = answer_following s d image middle later past place (lawful_parts s d later past h free) cut

entry_at-front : (later past : List Entry) (k : ℕ) → k < length past → entry_at (later ++ past) k ≡ entry_at past k
entry_at-front later past k h =
    ap (λ xs. slice_get xs k) (reverse-append later past)
    ∙ slice_get-front (reverse past) (reverse later) k (let l : length (reverse past) ≡ length past = length-reverse past in omega arith)

-- the entry issues no command
abbrev IsNoIssue : Entry → Type 0
IsNoIssue (Issue t work) = ⊥
IsNoIssue entry = Unit {0}

silent_for : (image : List ℕ) (before : List Entry) (newest entry : Entry) → IsNoIssue entry → given image before newest (Some entry) ≡ None
silent_for image before newest (Issue t work) h = absurd h
silent_for image before (Complete t) entry h = refl
silent_for image before (Fail t error lba) entry h = refl
silent_for image before newest entry h = refl

-- where every tag is free, nothing that comes gives an answer more
answered_or_silent : (s d : ℕ) (image : List ℕ) (past before : List Entry) (newest : Entry) (place : ℕ) → IsLawful s d past → AllFree past
    → option_or (answer image past place) (given image before newest (entry_at past place)) ≡ answer image past place
answered_or_silent s d image past before newest place h free = by (entry_at past place) (answer image past place) refl refl
  where
    by : (issue : Option Entry) (a : Option Answer) → entry_at past place ≡ issue → answer image past place ≡ a → option_or a (given image before newest issue) ≡ a
    by issue (Some a) at own = refl
    by None None at own = given_none image before newest
    by (Some (Issue tag work)) None at own =
        let last = unanswered_is_last s d image past place tag work h at own in
        let is = answered_by_phase s d image past tag (record { number = place; work = work }) h last in
        absurd (false≢true (sym (ap is_some own) ∙ is ∙ ap is_answered (free tag)))
    by (Some entry) None at own = silent_for image before newest entry tt

pub answer_of_earlier : AnswerOfEarlier
answer_of_earlier s d image [] past place h free within = refl
answer_of_earlier s d image (entry ∷ later) past place h free within =
    ap (λ o. option_or o (given image (later ++ past) entry (entry_at (later ++ past) place))) (answer_of_earlier s d image later past place h free within)
    ∙ ap (λ e. option_or (answer image past place) (given image (later ++ past) entry e)) (entry_at-front later past place within)
    ∙ answered_or_silent s d image past (later ++ past) entry place h free
