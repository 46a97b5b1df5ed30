-- A journal is lawful exactly if its entries' structs are judged to be. When an entry may come depends on no byte of a write.
use Rattle.std.proofs.Common.{inl, inr, ◌==◌, ◌≡◌, ◌∙◌, ◌↔◌, ℕ, ◌+◌, ◌*◌, ◌/◌, ◌<◌, ◌≤◌, Bool, true, false, cond, nat_lt, List, [], ◌∷◌, ◌++◌, length, map, Option, Some, None, IsSomeAnd, ap, refl, subst, sym}
use mathlib.Core.List.{reverse}
use Rattle.std.specs.List.{All, list_any}
use Rattle.std.specs.Option.{option_map}
use Rattle.std.proofs.Math.Path.{fun_ext}
use Rattle.std.proofs.lemmas.Bool.{cases_Bool, ltb-true}
use Rattle.std.proofs.lemmas.List.{length-replicate, map-append, reverse-append}
use Rattle.std.proofs.lemmas.List.Elements.{All-head, All-tail}
use Rattle.ncq_journal.specs.Entry.{Entry, Issue, Accept, Complete, Fail, Recover, Reissue, Collect, Unqueued, Zero}
use Rattle.ncq_journal.specs.EventKind.{HasLowTag, entry_of_kind, journal_of, kind_of, work_over}
use Rattle.ncq_journal.specs.Halted.{busy, halted, tags}
use Rattle.ncq_journal.specs.Image.{is_write}
use Rattle.ncq_journal.specs.Lawful.{Fails, IsAllowed, IsLawful, IsProper, IsWhole, MaySend}
use Rattle.ncq_journal.specs.Phase.{is_busy, is_failed, phase, phase_after}
use Rattle.ncq_journal.specs.Request.{Request, request}
use Rattle.ncq_journal.specs.Work.{Work, Read, Write, lba_of, sectors_of}
use Rattle.ncq_journal.specs.declared.phase.Phase.{Phase}
use Rattle.ncq_journal.specs.declared.phase.Phase.TheVariants as phases
use Rattle.ncq_journal.specs.declared.event_kind.EventKind.{EventKind}
use Rattle.ncq_journal.proofs.KindLemmas.{allowed_is_low, phase_after_of_kind, sectors_over}
use Rattle.ahci_ffi.specs.Flat.{flat_entry}
use Rattle.ahci_ffi.specs.Judging.{AreEntriesJudged, HasByteError, IsNameable, IsWholeEntry, kind_named, nameless}
use Rattle.ahci_ffi.proofs.NamingLemmas.{entries_name_their_events}

-- an entry with zeros in the place of a write's bytes
abbrev blank : Entry → Entry
blank entry = entry_of_kind (kind_of entry)

-- the LBA of a request's command, and its sectors
abbrev over : Request → ℕ × ℕ
over r = (lba_of r.work, sectors_of r.work)

-- a command and one of zeros are over the same sectors
blank_over : (number : ℕ) (work : Work) → over (record { number = number; work = work_over (is_write work) (lba_of work) (sectors_of work) }) ≡ (lba_of work, sectors_of work)
blank_over number (Read lba sectors) = refl
blank_over number (Write lba bytes) = ap (λ n. (lba, n)) (sectors_over true lba (length bytes / 512))

-- two journals that leave the same of each tag: its phase, and the sectors of its request
abbrev LeaveTheSame : List Entry → List Entry → Type 0
LeaveTheSame past other = (tag : ℕ) → (phase other tag ≡ phase past tag) × (option_map over (request other tag) ≡ option_map over (request past tag))

turned : (past other : List Entry) → LeaveTheSame past other → LeaveTheSame other past
turned past other same tag = (sym (same tag).0, sym (same tag).1)

over_if : (b : Bool) (r q : Request) (o p : Option Request) → over q ≡ over r → option_map over p ≡ option_map over o
    → option_map over (cond b (Some q) p) ≡ option_map over (cond b (Some r) o)
over_if true r q o p first more = ap Some first
over_if false r q o p first more = more

request_next : (past other : List Entry) (tag : ℕ) (entry : Entry) → option_map over (request other tag) ≡ option_map over (request past tag)
    → option_map over (request (blank entry ∷ other) tag) ≡ option_map over (request (entry ∷ past) tag)
request_next past other tag (Issue t work) same = over_if (t == tag) _ _ (request past tag) (request other tag) (blank_over (length other) work) same
request_next past other tag (Accept t) same = same
request_next past other tag (Complete t) same = same
request_next past other tag (Fail t error lba) same = same
request_next past other tag (Recover t) same = same
request_next past other tag (Reissue t) same = same
request_next past other tag (Collect t) same = same
request_next past other tag (Unqueued command) same = same
request_next past other tag (Zero lba sectors) same = same

blank_same : (past other : List Entry) (entry : Entry) → LeaveTheSame past other → LeaveTheSame (entry ∷ past) (blank entry ∷ other)
blank_same past other entry same tag =
    (ap (λ p. phase_after tag p (blank entry)) (same tag).0 ∙ phase_after_of_kind tag (phase past tag) entry, request_next past other tag entry (same tag).1)

phase_same : (past other : List Entry) → LeaveTheSame past other → phase other ≡ phase past
phase_same past other same = fun_ext (λ tag. (same tag).0)

halted_same : (past other : List Entry) → LeaveTheSame past other → halted other ≡ halted past
halted_same past other same = ap (λ f. list_any (λ tag. is_failed (f tag)) tags) (phase_same past other same)

busy_same : (past other : List Entry) → LeaveTheSame past other → busy other ≡ busy past
busy_same past other same = ap (λ f. list_any (λ tag. is_busy (f tag)) tags) (phase_same past other same)

-- the request of a tag is over the same sectors
some_over : (P : ℕ × ℕ → Type 0) (r : Option Request) → IsSomeAnd r (λ q. P (over q)) ↔ IsSomeAnd (option_map over r) P
some_over P None = (λ h. h, λ h. h)
some_over P (Some q) = (λ h. h, λ h. h)

request_same : (P : ℕ × ℕ → Type 0) (past other : List Entry) (tag : ℕ) → LeaveTheSame past other
    → IsSomeAnd (request past tag) (λ q. P (over q)) → IsSomeAnd (request other tag) (λ q. P (over q))
request_same P past other tag same found =
    (some_over P (request other tag)).1 (subst (λ o. IsSomeAnd o P) (sym (same tag).1) ((some_over P (request past tag)).0 found))

-- how a device may fail a command depends on its sectors alone
fails_over : (s : ℕ) (p : Phase) (work : Work) (error lba : ℕ) → Fails s p work error lba ↔ Fails s p (Read (lba_of work) (sectors_of work)) error lba
fails_over s phases.Free work error lba = (λ h. h, λ h. h)
fails_over s phases.Issued work error lba = (λ h. h, λ h. h)
fails_over s phases.Accepted work error lba = (λ h. h, λ h. h)
fails_over s phases.Rejected work error lba = (λ h. h, λ h. h)
fails_over s phases.Broken work error lba = (λ h. h, λ h. h)
fails_over s phases.Held work error lba = (λ h. h, λ h. h)
fails_over s phases.Done work error lba = (λ h. h, λ h. h)

each_some : {X : Type 0} {P Q : X → Type 0} (o : Option X) → ((x : X) → P x → Q x) → IsSomeAnd o P → IsSomeAnd o Q
each_some None h found = found
each_some (Some x) h found = h x found

fail_same : (s : ℕ) (past other : List Entry) (tag error lba : ℕ) → LeaveTheSame past other
    → IsSomeAnd (request past tag) (λ r. Fails s (phase past tag) r.work error lba) → IsSomeAnd (request other tag) (λ r. Fails s (phase other tag) r.work error lba)
fail_same s past other tag error lba same found =
    let there = sym (same tag).0 in
    let spans = each_some (request past tag) (λ r. (fails_over s (phase past tag) r.work error lba).0) found in
    let moved = request_same (λ k. Fails s (phase past tag) (Read k.0 k.1) error lba) past other tag same spans in
    subst (λ p. IsSomeAnd (request other tag) (λ r. Fails s p r.work error lba)) there
    (each_some (request other tag) (λ r. (fails_over s (phase past tag) r.work error lba).1) moved)

-- a command that can be issued, by its sectors
proper_over : (work : Work) → IsProper work → IsProper (work_over (is_write work) (lba_of work) (sectors_of work))
proper_over (Read lba sectors) proper = proper
proper_over (Write lba bytes) proper =
    let count = sectors_over true lba (length bytes / 512) in
    let long = length-replicate (512 * (length bytes / 512)) 0 in
    record {
      some = subst (λ n. 1 ≤ n) (sym count) proper.some;
      most = subst (λ n. n ≤ 65536) (sym count) proper.most;
      lba = proper.lba;
      whole = long ∙ ap (λ n. 512 * n) (sym count);
    }

proper_back : (work : Work) → IsWhole work → IsProper (work_over (is_write work) (lba_of work) (sectors_of work)) → IsProper work
proper_back (Read lba sectors) whole proper = proper
proper_back (Write lba bytes) whole proper =
    let count = sectors_over true lba (length bytes / 512) in
    record {
      some = subst (λ n. 1 ≤ n) count proper.some;
      most = subst (λ n. n ≤ 65536) count proper.most;
      lba = proper.lba;
      whole = whole;
    }

phase_at : (past other : List Entry) (tag : ℕ) (p : Phase) → LeaveTheSame past other → phase past tag ≡ p → phase other tag ≡ p
phase_at past other tag p same is = (same tag).0 ∙ is

may_send_same : (past other : List Entry) → LeaveTheSame past other → MaySend past → MaySend other
may_send_same past other same may = (halted_same past other same ∙ may.0, busy_same past other same ∙ may.1)

-- what may come after one journal may come after the other, with or without its bytes
allowed_over : (s d : ℕ) (past other : List Entry) (entry : Entry) → LeaveTheSame past other → IsAllowed s d past entry → IsAllowed s d other (blank entry)
allowed_over s d past other (Issue t work) same may =
    (may.0, phase_at past other t phases.Free same may.1, halted_same past other same ∙ may.2, proper_over work may.3)
allowed_over s d past other (Accept t) same may =
    (phase_at past other t phases.Issued same may.0, halted_same past other same ∙ may.1, request_same (λ k. k.0 + k.1 ≤ s) past other t same may.2)
allowed_over s d past other (Complete t) same may = (phase_at past other t phases.Accepted same may.0, halted_same past other same ∙ may.1)
allowed_over s d past other (Fail t error lba) same may = (halted_same past other same ∙ may.0, fail_same s past other t error lba same may.1)
allowed_over s d past other (Recover t) same may = ap is_failed (same t).0 ∙ may
allowed_over s d past other (Reissue t) same may = (phase_at past other t phases.Held same may.0, halted_same past other same ∙ may.1)
allowed_over s d past other (Collect t) same may = phase_at past other t phases.Done same may
allowed_over s d past other (Unqueued command) same may = (may.0, may_send_same past other same may.1)
allowed_over s d past other (Zero lba sectors) same may = (may.0, may_send_same past other same may.1)

allowed_back : (s d : ℕ) (past other : List Entry) (entry : Entry) → LeaveTheSame past other → IsWholeEntry entry → IsAllowed s d other (blank entry) → IsAllowed s d past entry
allowed_back s d past other (Issue t work) same whole may =
    (may.0, phase_at other past t phases.Free (turned past other same) may.1, sym (halted_same past other same) ∙ may.2, proper_back work whole may.3)
allowed_back s d past other entry same whole may = allowed_over s d other past entry (turned past other same) may

-- ---- the structs of a journal

-- the entry that the struct of an entry names
abbrev judged : Entry → Entry
judged entry = entry_of_kind (kind_named (flat_entry entry))

judged_is : (entry : Entry) → HasLowTag (kind_of entry) → HasByteError (kind_of entry) → judged entry ≡ blank entry
judged_is entry low byte = ap entry_of_kind (entries_name_their_events entry low byte)

-- what names no event may not come
low_or_nameless : (s d : ℕ) (past : List Entry) (tag : ℕ) (k : EventKind) → IsAllowed s d past (entry_of_kind (cond (nat_lt tag 32) k nameless)) → tag < 32
low_or_nameless s d past tag k may = elim (cases_Bool (nat_lt tag 32)) [
  | inl low ↦ ltb-true tag 32 low
  | inr high ↦ absurd ((subst (λ b. IsAllowed s d past (entry_of_kind (cond b k nameless))) high may).0)
]

low_tag : (s d : ℕ) (past : List Entry) (entry : Entry) → IsAllowed s d past (judged entry) → HasLowTag (kind_of entry)
low_tag s d past (Issue tag (Read lba sectors)) may = low_or_nameless s d past tag _ may
low_tag s d past (Issue tag (Write lba bytes)) may = low_or_nameless s d past tag _ may
low_tag s d past (Accept tag) may = low_or_nameless s d past tag _ may
low_tag s d past (Complete tag) may = low_or_nameless s d past tag _ may
low_tag s d past (Fail tag error lba) may = low_or_nameless s d past tag _ may
low_tag s d past (Recover tag) may = low_or_nameless s d past tag _ may
low_tag s d past (Reissue tag) may = low_or_nameless s d past tag _ may
low_tag s d past (Collect tag) may = low_or_nameless s d past tag _ may
low_tag s d past (Unqueued command) may = tt
low_tag s d past (Zero lba sectors) may = tt

same_next : (past other : List Entry) (entry : Entry) → LeaveTheSame past other → judged entry ≡ blank entry → LeaveTheSame (entry ∷ past) (judged entry ∷ other)
same_next past other entry same is = subst (λ e. LeaveTheSame (entry ∷ past) (e ∷ other)) (sym is) (blank_same past other entry same)

judged_lawful : (s d : ℕ) (past : List Entry) → d ≤ 32 → All IsNameable past → IsLawful s d past → LeaveTheSame past (map judged past) × IsLawful s d (map judged past)
judged_lawful s d [] few named lawful = (λ tag. (refl, refl), tt)
judged_lawful s d (entry ∷ past) few named lawful =
    let before = judged_lawful s d past few (All-tail IsNameable entry past named) lawful.0 in
    let low = allowed_is_low s d past (kind_of entry) lawful.0 few (allowed_over s d past past entry (λ tag. (refl, refl)) lawful.1) in
    let is = judged_is entry low (All-head IsNameable entry past named).0 in (
      same_next past (map judged past) entry before.0 is,
      (before.1, subst (IsAllowed s d (map judged past)) (sym is) (allowed_over s d past (map judged past) entry before.0 lawful.1)),
    )

lawful_judged : (s d : ℕ) (past : List Entry) → All IsNameable past → IsLawful s d (map judged past) → LeaveTheSame past (map judged past) × IsLawful s d past
lawful_judged s d [] named lawful = (λ tag. (refl, refl), tt)
lawful_judged s d (entry ∷ past) named lawful =
    let before = lawful_judged s d past (All-tail IsNameable entry past named) lawful.0 in
    let it = All-head IsNameable entry past named in
    let is = judged_is entry (low_tag s d (map judged past) entry lawful.1) it.0 in (
      same_next past (map judged past) entry before.0 is,
      (before.1, allowed_back s d past (map judged past) entry before.0 it.1 (subst (IsAllowed s d (map judged past)) is lawful.1)),
    )

-- the newest first, or the oldest first
mapped_back : (entries : List Entry) → map judged (reverse entries) ≡ journal_of kind_named (map flat_entry entries)
mapped_back [] = refl
mapped_back (entry ∷ entries) =
    ap (map judged) (reverse-append (entry ∷ []) entries) ∙ map-append judged (reverse entries) (entry ∷ [])
    ∙ ap (λ xs. xs ++ judged entry ∷ []) (mapped_back entries)
    ∙ sym (reverse-append (judged entry ∷ []) (map (λ e. entry_of_kind (kind_named e)) (map flat_entry entries)))

pub entries_are_judged : AreEntriesJudged
entries_are_judged s d entries few named = (
  (λ lawful. subst (IsLawful s d) (mapped_back entries) (judged_lawful s d (reverse entries) few named lawful).1),
  (λ lawful. (lawful_judged s d (reverse entries) named (subst (IsLawful s d) (sym (mapped_back entries)) lawful)).1),
)
