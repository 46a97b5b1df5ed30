-- What one more entry does to the answers of all requests.
use Rattle.std.proofs.Common.{◌≡◌, ◌≢◌, ℕ, ◌+◌, ◌*◌, ◌<◌, ◌≤◌, Bool, true, false, cond, ◌==◌, List, [], ◌∷◌, length, set, get_or-set_same, get_or-set_other, length-set, replicate, ◌&&◌, ◌-◌, take, ap, sym, refl, subst, ◌∙◌, Option, None, Some, get_or, IsSome, IsSomeAnd, arith, inl, inr}
use Rattle.std.specs.Option.{option_map}
use Rattle.std.proofs.lemmas.Bool.{cases_eq, eq-eqb, ne_eqb, cond-true, cond-false}
use Rattle.std.proofs.lemmas.Option.{same_Some, slice_get_read}
use Rattle.ncq_journal.specs.declared.outcome.Outcome.TheVariants as outcome
use Rattle.ncq_journal.specs.declared.phase.Phase.TheVariants.{Free, Accepted}
use Rattle.ncq_journal.specs.Answer.{Answer, answer, completes}
use Rattle.ncq_journal.specs.Entry.{Entry, entry_of, Issue, Accept, Complete, Fail, Recover, Reissue, Collect, Unqueued, Zero}
use Rattle.ncq_journal.specs.History.{entry_at, history_of}
use Rattle.ncq_journal.specs.Lawful.{IsAllowed, IsLawful, IsProper, IsWhole, Fits, end_of}
use Rattle.ncq_journal.specs.Phase.{phase}
use Rattle.ncq_journal.specs.Request.{Request, request}
use Rattle.ncq_journal.specs.Work.{Work, Read, Write}
use Rattle.ncq_journal.proofs.AnsweredLemmas.{completed_now}
use Rattle.ncq_journal.proofs.EntryLemmas.{entry_at-within, request_is_its_issue}
use Rattle.ncq_journal.proofs.HistoryLemmas.{entry_at-history, history_more, length_history}
use Rattle.ncq_journal.proofs.AnswerLemmas.{proper_entry}
use Rattle.ncq_journal.proofs.LawfulLemmas.{allowed_at, lawful_first, lawful_proper}
use Rattle.ncq_journal.proofs.PhaseLemmas.{accepted_fits, below_depth, owned_has_request}
use Rattle.ncq_journal.specs.declared.event.Event.{Event}
use Rattle.ncq_journal.specs.declared.event.Event.TheVariants as code
use Rattle.ncq_journal.specs.declared.op.Op.{Op}
use Rattle.ncq_journal.specs.Image.{sector_at, covers, is_write, written_at, zeroed, IsZeroedOver}
use Rattle.ncq_journal.specs.Passing.{IsImageAfter, completed_over}
use Rattle.ncq_journal.specs.Sector.{sector, completed}
use Rattle.ncq_journal.proofs.ImageLemmas.{joined-sectors}
use Rattle.std.proofs.lemmas.List.{get_or-replicate, length-replicate, length-take-le}
use Rattle.ncq_journal.proofs.OthersLemmas.{complete_others, fail_others, failed_now, failure, silent}

-- a tag's request, and its Issue among the events
pub record IsAsked {A : _} (past : List (Event A)) (tag m : ℕ) : Type 0 where
  pub r : Request
  pub is : request (history_of past) tag ≡ Some r
  pub number_is : r.number ≡ m
  pub within : m < length past
  pub issue : (event : Event A) → event ≡ get_or past m event → entry_of event ≡ Issue tag r.work

pub asked_there : {A : _} (past : List (Event A)) (tag m : ℕ) → Some m ≡ option_map (λ r. r.number) (request (history_of past) tag) → IsAsked past tag m
asked_there past tag m e = by (request (history_of past) tag) refl e
  where
    by : (o : Option Request) → request (history_of past) tag ≡ o → Some m ≡ option_map (λ r. r.number) o → IsAsked past tag m
    by None q x = absurd (cc)
    by (Some r) q x =
        let same : m ≡ r.number = same_Some m r.number x in
        let at : entry_at (history_of past) m ≡ Some (Issue tag r.work) = ap (entry_at (history_of past)) same ∙ request_is_its_issue (history_of past) tag r q in
        let inside = entry_at-within (history_of past) m (Issue tag r.work) at in
        let len = length_history past in
        let low : m < length past = omega arith in
        record {
          r = r;
          is = q;
          number_is = sym same;
          within = low;
          issue = λ event here. same_Some (entry_of event) (Issue tag r.work)
              (sym (entry_at-history past m ∙ ap (option_map entry_of) (slice_get_read past (length past) m event refl low here)) ∙ at);
        }

pub not_issue : {A : _} (event : Event A) (tag : ℕ) (work : Work) → ((x : ℕ) (op : Op A) → event ≡ code.Issue x op → ⊥) → entry_of event ≡ Issue tag work → ⊥
not_issue (code.Issue x op) tag work h e = h x op refl
not_issue _ tag work h e = cc

pub same_request : (r : Request) (n tag u : ℕ) (work : Work) → r.number ≡ n → Issue u work ≡ Issue tag r.work → Some r ≡ Some (record { number = n; work = work })
same_request r n tag u work e f =
    let w : r.work ≡ work = cc in
    ap (λ k. Some (record { number = k; work = r.work })) e ∙ ap (λ x. Some (record { number = n; work = x })) w

-- the image as it is then, the number of each tag's request, and the answers so far of a journal with so many entries
pub record IsPassed (image : List ℕ) (past : List Entry) (total depth : ℕ) (now : List ℕ) (requests : List (Option ℕ)) (answers : List (Option Answer)) : Type 0 where
  pub size : length now ≡ length image
  pub sectors : (s : ℕ) → sector_at now s ≡ sector image past s
  pub tags : length requests ≡ depth
  pub numbers : (t : ℕ) → t < depth → get_or requests t None ≡ option_map (λ r. r.number) (request past t)
  pub count : length answers ≡ total
  pub each : (n : ℕ) → n < total → get_or answers n None ≡ answer image past n

-- the beginning of a pass
pub passed_none : (image : List ℕ) (total depth : ℕ) → IsPassed image [] total depth image (replicate depth None) (replicate total None)
passed_none image total depth = record {
  size = refl;
  sectors = λ s. refl;
  tags = length-replicate depth None;
  numbers = λ t low. get_or-replicate depth t None None low;
  count = length-replicate total None;
  each = λ n low. get_or-replicate total n None None low;
}

-- a tag is issued
pub passed_issue : (image : List ℕ) (past : List Entry) (total depth tag : ℕ) (work : Work) (now : List ℕ) (requests : List (Option ℕ)) (answers : List (Option Answer)) → tag < depth
    → IsPassed image past total depth now requests answers → IsPassed image (Issue tag work ∷ past) total depth now (set requests tag (Some (length past))) answers
passed_issue image past total depth tag work now requests answers low p = record {
  size = p.size;
  sectors = p.sectors;
  tags = length-set requests tag (Some (length past)) ∙ p.tags;
  numbers = numbers;
  count = p.count;
  each = λ n in_list. p.each n in_list ∙ sym (silent image past n (Issue tag work) refl);
}
  where
    asked : (b : Bool) (u : ℕ) → cond b (Some (length past)) (option_map (λ r. r.number) (request past u)) ≡ option_map
        (λ r. r.number) (cond b (Some (record { number = length past; work = work })) (request past u))
    asked true u = refl
    asked false u = refl

    numbers : (u : ℕ) → u < depth → get_or (set requests tag (Some (length past))) u None ≡ option_map (λ r. r.number) (request (Issue tag work ∷ past) u)
    numbers u inside = elim (cases_eq u tag) [
      | inl same ↦
          ap (λ k. get_or (set requests tag (Some (length past))) k None) same
          ∙ get_or-set_same requests tag (Some (length past)) None (let t = p.tags in omega arith)
          ∙ sym (cond-true (tag == u) (Some (length past)) (option_map (λ r. r.number) (request past u)) (eq-eqb tag u (sym same)))
          ∙ asked (tag == u) u
      | inr other ↦
          get_or-set_other requests tag u (Some (length past)) None other ∙ p.numbers u inside
          ∙ sym (cond-false (tag == u) (Some (length past)) (option_map (λ r. r.number) (request past u)) (ne_eqb tag u (λ e. other (sym e))))
          ∙ asked (tag == u) u
    ]

-- an entry that leaves sectors and requests, and answers one request alone
passed_answer : (image : List ℕ) (past : List Entry) (total depth m : ℕ) (newest : Entry) (a : Answer) (now new : List ℕ) (requests : List (Option ℕ)) (answers : List (Option Answer)) → m < total
    → IsPassed image past total depth now requests answers → length new ≡ length now → ((s : ℕ) → sector_at new s ≡ sector image (newest ∷ past) s)
    → ((u : ℕ) → request (newest ∷ past) u ≡ request past u) → answer image (newest ∷ past) m ≡ Some a → ((n : ℕ) → n ≢ m → answer image (newest ∷ past) n ≡ answer image past n)
    → IsPassed image (newest ∷ past) total depth new requests (set answers m (Some a))
passed_answer image past total depth m newest a now new requests answers low p len sectors same given_now apart = record {
  size = len ∙ p.size;
  sectors = sectors;
  tags = p.tags;
  numbers = λ u inside. p.numbers u inside ∙ sym (ap (option_map (λ r. r.number)) (same u));
  count = length-set answers m (Some a) ∙ p.count;
  each = each;
}
  where
    each : (n : ℕ) → n < total → get_or (set answers m (Some a)) n None ≡ answer image (newest ∷ past) n
    each n inside = elim (cases_eq n m) [
      | inl here ↦
          ap (λ k. get_or (set answers m (Some a)) k None) here ∙ get_or-set_same answers m (Some a) None (let c = p.count in omega arith) ∙ sym given_now
          ∙ sym (ap (answer image (newest ∷ past)) here)
      | inr other ↦ get_or-set_other answers m n (Some a) None other ∙ p.each n inside ∙ sym (apart n other)
    ]

-- the answer over the image as it is, is the journal's
over_is : (image : List ℕ) (past : List Entry) (now : List ℕ) (work : Work) → ((s : ℕ) → sector_at now s ≡ sector image past s) → completes image past work ≡ completed_over now (length past) work
over_is image past now (Read lba sectors) h = ap (λ bytes. record { entry = length past; outcome = outcome.Read; bytes = bytes }) (sym (joined-sectors (sector image past) now h lba sectors))
over_is image past now (Write lba bytes) h = refl

-- the image after the command is the journal's
after_is : (image : List ℕ) (past : List Entry) (r : Request) (now new : List ℕ) (work : Work) → r.work ≡ work → ((s : ℕ) → sector_at now s ≡ sector image past s) → IsImageAfter work now new
    → (length new ≡ length now) × ((s : ℕ) → sector_at new s ≡ completed (Some r) s (sector image past s))
after_is image past r now new (Read lba sectors) e h after = (
  ap length after,
  λ s. ap (λ x. sector_at x s) after ∙ h s ∙ sym (ap (λ w. cond (is_write w && covers w s) (written_at w s) (sector image past s)) e),
)
after_is image past r now new (Write lba bytes) e h after = (
  after.0,
  λ s. after.1 s ∙ ap (cond (covers (Write lba bytes) s) (sector_at bytes (s - lba))) (h s)
      ∙ sym (ap (λ w. cond (is_write w && covers w s) (written_at w s) (sector image past s)) e),
)

-- a command is completed
pub passed_complete : (s d : ℕ) (image : List ℕ) (past : List Entry) (total depth tag : ℕ) (r : Request) (now new : List ℕ) (requests : List (Option ℕ)) (answers : List (Option Answer))
    → length past ≤ total
    → IsLawful s d (Complete tag ∷ past) → request past tag ≡ Some r → IsImageAfter r.work now new
    → IsPassed image past total depth now requests answers → IsPassed image (Complete tag ∷ past) total depth new requests (set answers r.number (Some (completed_over now (length past) r.work)))
passed_complete s d image past total depth tag r now new requests answers few h q after p =
    let image_after = after_is image past r now new r.work refl p.sectors after in
    let within = entry_at-within past r.number (Issue tag r.work) (request_is_its_issue past tag r q) in
    passed_answer image past total depth r.number (Complete tag) (completed_over now (length past) r.work) now new requests answers (omega arith)
    p image_after.0 (λ k. image_after.1 k ∙ ap (λ o. completed o k (sector image past k)) (sym q)) (λ u. refl)
    (completed_now s d image past tag r h q ∙ ap (λ a. Some a) (over_is image past now r.work p.sectors))
    (λ n other. complete_others s d image past tag n r h.0 q other)

-- a command fails
pub passed_fail : (s d : ℕ) (image : List ℕ) (past : List Entry) (total depth tag error lba : ℕ) (r : Request) (now : List ℕ) (requests : List (Option ℕ)) (answers : List (Option Answer))
    → length past ≤ total
    → IsLawful s d (Fail tag error lba ∷ past) → request past tag ≡ Some r
    → IsPassed image past total depth now requests answers → IsPassed image (Fail tag error lba ∷ past) total depth now requests (set answers r.number (Some (failure past error lba)))
passed_fail s d image past total depth tag error lba r now requests answers few h q p =
    let within = entry_at-within past r.number (Issue tag r.work) (request_is_its_issue past tag r q) in
    passed_answer image past total depth r.number (Fail tag error lba) (failure past error lba) now now requests answers (omega arith)
    p refl p.sectors (λ u. refl) (failed_now s d image past tag error lba r h q) (λ n other. fail_others s d image past tag n error lba r h.0 q other)

-- what the end of a tag's command asks for
pub record IsEnding (past : List Entry) (depth tag : ℕ) (requests : List (Option ℕ)) (answers : List (Option Answer)) : Type 0 where
  pub low : tag < length requests
  pub some : IsSome (request past tag)
  pub number : get_or requests tag None ≡ option_map (λ r. r.number) (request past tag)
  pub within : (r : Request) → request past tag ≡ Some r → r.number < length answers

pub ending : (s d : ℕ) (image : List ℕ) (past : List Entry) (total tag : ℕ) (now : List ℕ) (requests : List (Option ℕ)) (answers : List (Option Answer))
    → length past ≤ total → IsLawful s d past → phase past tag ≢ Free
    → IsPassed image past total d now requests answers → IsEnding past d tag requests answers
ending s d image past total tag now requests answers few h taken p =
    let deep = below_depth s d past tag (phase past tag) h refl taken in
    record {
      low = (let t = p.tags in omega arith);
      some = owned_has_request s d past tag h taken;
      number = p.numbers tag deep;
      within = λ r q. (let w = entry_at-within past r.number (Issue tag r.work) (request_is_its_issue past tag r q) in let c = p.count in omega arith);
    }

-- what a command that is completed asks for
pub record IsMoving (work : Work) (now : List ℕ) : Type 0 where
  pub fits : 512 * end_of work ≤ length now
  pub whole : IsWhole work

pub moving : (s d : ℕ) (image : List ℕ) (past : List Entry) (total tag : ℕ) (r : Request) (now : List ℕ) (requests : List (Option ℕ)) (answers : List (Option Answer))
    → length image ≡ 512 * s → IsLawful s d past → phase past tag ≡ Accepted → request past tag ≡ Some r
    → IsPassed image past total d now requests answers → IsMoving r.work now
moving s d image past total tag r now requests answers size h accepted q p =
    let fits : Fits s r.work = subst (λ o. IsSomeAnd o (λ x. Fits s x.work)) q (accepted_fits s d past tag h accepted) in
    let proper : IsProper r.work = proper_entry past r.number (Issue tag r.work) (lawful_proper s d past h) (request_is_its_issue past tag r q) in
    record {
      fits = (let z = p.size in let f : end_of r.work ≤ s = fits in omega arith);
      whole = proper.whole;
    }

pub accepted_taken : (past : List Entry) (tag : ℕ) → phase past tag ≡ Accepted → phase past tag ≢ Free
accepted_taken past tag e f = let z : Accepted ≡ Free = sym e ∙ f in cc

-- an event that is to be taken next, after those before it
pub record IsNext {A : _} (s d : ℕ) (events : List (Event A)) (i : ℕ) (event : Event A) : Type 0 where
  pub before : IsLawful s d (history_of (take i events))
  pub allowed : IsAllowed s d (history_of (take i events)) (entry_of event)
  pub more : history_of (take (i + 1) events) ≡ entry_of event ∷ history_of (take i events)
  pub len : length (history_of (take i events)) ≡ i

pub next_is : {A : _} (s d : ℕ) (events : List (Event A)) (i : ℕ) (event : Event A) → i < length events → event ≡ get_or events i event → IsLawful s d (history_of events) → IsNext s d events i event
next_is s d events i event low e h = record {
  before = lawful_first s d events i h;
  allowed = allowed_at s d events i event low e h;
  more = history_more events i event low e;
  len = length_history (take i events) ∙ length-take-le i events (omega arith);
}

-- sectors become zeros
pub passed_zero : (image : List ℕ) (past : List Entry) (total depth lba sectors : ℕ) (now new : List ℕ) (requests : List (Option ℕ)) (answers : List (Option Answer))
    → length new ≡ length now → IsZeroedOver lba sectors now new → IsPassed image past total depth now requests answers
    → IsPassed image (Zero lba sectors ∷ past) total depth new requests answers
passed_zero image past total depth lba sectors now new requests answers len zeros p = record {
  size = len ∙ p.size;
  sectors = λ s. zeros s ∙ ap (zeroed lba sectors s) (p.sectors s);
  tags = p.tags;
  numbers = p.numbers;
  count = p.count;
  each = λ n low. p.each n low ∙ sym (silent image past n (Zero lba sectors) refl);
}

-- an entry that moves nothing
pub passed_quiet : (image : List ℕ) (past : List Entry) (total depth : ℕ) (newest : Entry) (now : List ℕ) (requests : List (Option ℕ)) (answers : List (Option Answer))
    → ((u : ℕ) (work : Work) → newest ≢ Issue u work) → ((u : ℕ) → newest ≢ Complete u) → ((u error lba : ℕ) → newest ≢ Fail u error lba) → ((lba sectors : ℕ) → newest ≢ Zero lba sectors)
    → IsPassed image past total depth now requests answers → IsPassed image (newest ∷ past) total depth now requests answers
passed_quiet image past total depth (Issue t work) now requests answers i c f z p = absurd (i t work refl)
passed_quiet image past total depth (Complete t) now requests answers i c f z p = absurd (c t refl)
passed_quiet image past total depth (Fail t error lba) now requests answers i c f z p = absurd (f t error lba refl)
passed_quiet image past total depth (Accept t) now requests answers i c f z p =
    record { size = p.size; sectors = p.sectors; tags = p.tags; numbers = p.numbers; count = p.count; each = λ n low. p.each n low ∙ sym (silent image past n (Accept t) refl) }
passed_quiet image past total depth (Recover t) now requests answers i c f z p =
    record { size = p.size; sectors = p.sectors; tags = p.tags; numbers = p.numbers; count = p.count; each = λ n low. p.each n low ∙ sym (silent image past n (Recover t) refl) }
passed_quiet image past total depth (Reissue t) now requests answers i c f z p =
    record { size = p.size; sectors = p.sectors; tags = p.tags; numbers = p.numbers; count = p.count; each = λ n low. p.each n low ∙ sym (silent image past n (Reissue t) refl) }
passed_quiet image past total depth (Collect t) now requests answers i c f z p =
    record { size = p.size; sectors = p.sectors; tags = p.tags; numbers = p.numbers; count = p.count; each = λ n low. p.each n low ∙ sym (silent image past n (Collect t) refl) }
passed_quiet image past total depth (Unqueued command) now requests answers i c f z p =
    record { size = p.size; sectors = p.sectors; tags = p.tags; numbers = p.numbers; count = p.count; each = λ n low. p.each n low ∙ sym (silent image past n (Unqueued command) refl) }
passed_quiet image past total depth (Zero lba sectors) now requests answers i c f z p = absurd (z lba sectors refl)
