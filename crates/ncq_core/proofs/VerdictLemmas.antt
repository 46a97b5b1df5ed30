-- The disk's verdict, case by case.
use Rattle.std.proofs.Common.{◌≡◌, ℕ, ◌+◌, Bool, true, false, ◌&&◌, ◌||◌, cond, ◌==◌, leb, List, [], ◌∷◌, get_or, ap, refl, ◌∙◌, Option, None, Some, IsSome, zero, suc, rules, inl, inr}
use Rattle.std.proofs.lemmas.Bool.{and_parts, cases_lt, cond-true, cond-false, eqb-true, eq-eqb, ne_eqb, false_from_ne_true, le-leb, lt-leb, lt-ltb, le-ltb, or_from, or_left, or_right}
use Rattle.std.specs.List.{list_any}
use Rattle.std.specs.Option.{is_some}
use Rattle.sata_fis.specs.Command.{queued_in}
use Rattle.sata_fis.specs.Fields.{H2dFields, QueuedFields}
use Rattle.ncq_journal.specs.declared.plain.Plain.{Plain}
use Rattle.ncq_journal.specs.declared.plain.Plain.TheVariants.{Identify, Flush, ReadLog}
use Rattle.ncq_core.specs.DiskLaws.{CommandIsSpelled}
use Rattle.ncq_core.specs.DiskState.{DiskState, command_of, disk_sectors}
use Rattle.ncq_core.specs.Verdict.{aborted, accepted, by_kind, command_in, idle_verdict, is_busy, is_past_end, is_read_log, is_taken_tag, not_found, passed}
use Rattle.ncq_core.specs.Verdict.{plain_verdict, queued_verdict, running_verdict, stopped_verdict, verdict}
use Rattle.ncq_core.specs.VerdictTable.{AsksForTheErrorLog, Carries, CarriesPlain, CarriesQueued, IsFreeTag, IsIdle, WhileRunning, WhileStopped}

command_is_spelled : CommandIsSpelled
command_is_spelled bytes f = search rules

-- the command that the bytes carry, as the definition has it
carried : (bytes : List ℕ) (f : H2dFields) → Carries bytes f → command_in bytes ≡ Some f
carried bytes f h = (command_is_spelled bytes f).1 h

while_stopped : (disk : DiskState) (bytes : List ℕ) → IsSome disk.error → verdict disk bytes ≡ stopped_verdict disk (command_in bytes)
while_stopped disk bytes stands = cond-true (is_some disk.error) (stopped_verdict disk (command_in bytes)) (running_verdict disk (command_in bytes)) stands

while_running : (disk : DiskState) (bytes : List ℕ) → disk.error ≡ None → verdict disk bytes ≡ running_verdict disk (command_in bytes)
while_running disk bytes none = cond-false (is_some disk.error) (stopped_verdict disk (command_in bytes)) (running_verdict disk (command_in bytes)) (ap is_some none)

log_parts : (f : H2dFields) → is_read_log f ≡ true → (f.command ≡ 0x2F) × (f.lba ≡ 0x10) × (f.count ≡ 1)
log_parts f e =
    let outer = and_parts (f.command == 0x2F && f.lba == 0x10) (f.count == 1) e in
    let inner = and_parts (f.command == 0x2F) (f.lba == 0x10) outer.0 in
    (eqb-true f.command 0x2F inner.0, eqb-true f.lba 0x10 inner.1, eqb-true f.count 1 outer.1)

is_log : (f : H2dFields) → (f.command ≡ 0x2F) × (f.lba ≡ 0x10) × (f.count ≡ 1) → is_read_log f ≡ true
is_log f (command, lba, count) = rw (eq-eqb f.command 0x2F command, eq-eqb f.lba 0x10 lba, eq-eqb f.count 1 count)

-- a command that the definition has is one that the bytes carry
other_while_stopped : (disk : DiskState) (bytes : List ℕ) (o : Option H2dFields) → command_in bytes ≡ o → ¬ (AsksForTheErrorLog bytes) → stopped_verdict disk o ≡ aborted disk
other_while_stopped disk bytes None is other = refl
other_while_stopped disk bytes (Some f) is other =
    cond-false (is_read_log f) (passed disk ReadLog) (aborted disk) (false_from_ne_true (is_read_log f) (λ e. let p = log_parts f e in other (f, (command_is_spelled bytes f).0 is, p.0, p.1, p.2)))

pub stopped_table : WhileStopped
stopped_table = record {
  log = λ disk bytes stands asks. while_stopped disk bytes stands ∙ ap (stopped_verdict disk) (carried bytes asks.0 asks.1)
      ∙ cond-true (is_read_log asks.0) (passed disk ReadLog) (aborted disk) (is_log asks.0 (asks.2, asks.3, asks.4));
  other = λ disk bytes stands asks. while_stopped disk bytes stands ∙ other_while_stopped disk bytes (command_in bytes) refl asks;
}

nothing_carried : (disk : DiskState) (bytes : List ℕ) (o : Option H2dFields) → command_in bytes ≡ o → ((f : H2dFields) → ¬ (Carries bytes f)) → running_verdict disk o ≡ aborted disk
nothing_carried disk bytes None is none = refl
nothing_carried disk bytes (Some f) is none = absurd (none f ((command_is_spelled bytes f).0 is))

-- a command of a kind, while there is no error condition
by_its_kind : (disk : DiskState) (bytes : List ℕ) (f : H2dFields) (o : Option QueuedFields) → disk.error ≡ None → Carries bytes f → queued_in f ≡ o → verdict disk bytes ≡ by_kind disk f o
by_its_kind disk bytes f o runs its kind = while_running disk bytes runs ∙ ap (running_verdict disk) (carried bytes f its) ∙ ap (by_kind disk f) kind

queued_row : (disk : DiskState) (bytes : List ℕ) (q : QueuedFields) → disk.error ≡ None → CarriesQueued bytes q → verdict disk bytes ≡ queued_verdict disk q
queued_row disk bytes q runs its = by_its_kind disk bytes its.0 (Some q) runs its.1 its.2

plain_row : (disk : DiskState) (bytes : List ℕ) (code : ℕ) → disk.error ≡ None → CarriesPlain bytes code → verdict disk bytes ≡ plain_verdict disk code
plain_row disk bytes code runs its = by_its_kind disk bytes its.0 None runs its.1 its.2 ∙ ap (plain_verdict disk) its.3

is_free : (disk : DiskState) (tag : ℕ) → IsFreeTag disk tag → is_taken_tag disk tag ≡ false
is_free disk tag free = or_from (leb disk.depth tag) (is_some (command_of disk tag)) (lt-leb disk.depth tag free.0) (ap is_some free.1)

taken_by : (o : Option QueuedFields) → is_some o ≡ false → o ≡ None
taken_by None e = refl
taken_by (Some q) e = absurd (cc)

-- the tag of a command that is refused for it is not free
is_taken : (disk : DiskState) (tag : ℕ) → ¬ (IsFreeTag disk tag) → is_taken_tag disk tag ≡ true
is_taken disk tag owned =
    elim (cases_lt tag disk.depth) [
      | inl low ↦ or_right (leb disk.depth tag) (is_some (command_of disk tag)) (some_unless (command_of disk tag) (λ none. owned (low, none)))
      | inr high ↦ or_left (leb disk.depth tag) (is_some (command_of disk tag)) (le-leb disk.depth tag high)
    ]
  where
    some_unless : (o : Option QueuedFields) → (o ≡ None → ⊥) → is_some o ≡ true
    some_unless None h = absurd (h refl)
    some_unless (Some q) h = refl

-- where no command is at any tag, none is outstanding
none_any : (commands : List (Option QueuedFields)) → ((i : ℕ) → get_or commands i None ≡ None) → list_any is_some commands ≡ false
none_any [] each = refl
none_any (o ∷ os) each = or_from (is_some o) (list_any is_some os) (ap is_some (each 0)) (none_any os (λ i. each (suc i)))

any_none : (commands : List (Option QueuedFields)) → list_any is_some commands ≡ false → (i : ℕ) → get_or commands i None ≡ None
any_none [] e i = refl
any_none (o ∷ os) e zero = taken_by o (left_false (is_some o) (list_any is_some os) e)
  where
    left_false : (a b : Bool) → (a || b) ≡ false → a ≡ false
    left_false true b e = absurd (cc)
    left_false false b e = refl
any_none (o ∷ os) e (suc i) = any_none os (right_false (is_some o) (list_any is_some os) e) i
  where
    right_false : (a b : Bool) → (a || b) ≡ false → b ≡ false
    right_false true b e = absurd (cc)
    right_false false b e = e

idle_row : (disk : DiskState) (bytes : List ℕ) (code : ℕ) (command : Plain) → disk.error ≡ None → CarriesPlain bytes code → plain_verdict disk code ≡ idle_verdict disk command
    → IsIdle disk → verdict disk bytes ≡ passed disk command
idle_row disk bytes code command runs its is idle =
    plain_row disk bytes code runs its ∙ is ∙ cond-false (is_busy disk) (aborted disk) (passed disk command) (none_any disk.commands idle)

-- every command that is not queued is refused while one is outstanding
busy_plain : (disk : DiskState) (code : ℕ) → is_busy disk ≡ true → plain_verdict disk code ≡ aborted disk
busy_plain disk code busy = by_code (code == 0xEC) (code == 0xEA)
  where
    waits : (command : Plain) → idle_verdict disk command ≡ aborted disk
    waits command = cond-true (is_busy disk) (aborted disk) (passed disk command) busy

    by_code : (identify flush : Bool) → cond identify (idle_verdict disk Identify) (cond flush (idle_verdict disk Flush) (aborted disk)) ≡ aborted disk
    by_code true flush = waits Identify
    by_code false true = waits Flush
    by_code false false = refl

is_busy_unless : (disk : DiskState) → ¬ (IsIdle disk) → is_busy disk ≡ true
is_busy_unless disk busy = by (is_busy disk) refl
  where
    by : (b : Bool) → is_busy disk ≡ b → b ≡ true
    by true e = refl
    by false e = absurd (busy (any_none disk.commands e))

pub running_table : WhileRunning
running_table = record {
  none = λ disk bytes runs nothing. while_running disk bytes runs ∙ nothing_carried disk bytes (command_in bytes) refl nothing;
  taken = λ disk bytes q runs its owned. queued_row disk bytes q runs its ∙ cond-true (is_taken_tag disk q.tag) (aborted disk) _ (is_taken disk q.tag owned);
  past_end = λ disk bytes q runs its free past. queued_row disk bytes q runs its ∙ cond-false (is_taken_tag disk q.tag) (aborted disk) _ (is_free disk q.tag free)
      ∙ cond-true (is_past_end disk q) (not_found disk q) (accepted disk q) (lt-ltb (disk_sectors disk) (q.lba + q.sectors) past);
  accepts = λ disk bytes q runs its free fits. queued_row disk bytes q runs its ∙ cond-false (is_taken_tag disk q.tag) (aborted disk) _ (is_free disk q.tag free)
      ∙ cond-false (is_past_end disk q) (not_found disk q) (accepted disk q) (le-ltb (disk_sectors disk) (q.lba + q.sectors) fits);
  identify = λ disk bytes runs its idle. idle_row disk bytes 0xEC Identify runs its refl idle;
  flush = λ disk bytes runs its idle. idle_row disk bytes 0xEA Flush runs its refl idle;
  busy = λ disk bytes code runs its busy. plain_row disk bytes code runs its ∙ busy_plain disk code (is_busy_unless disk busy);
  other = λ disk bytes code runs its identify flush. plain_row disk bytes code runs its
      ∙ cond-false (code == 0xEC) (idle_verdict disk Identify) _ (ne_eqb code 0xEC identify) ∙ cond-false (code == 0xEA) (idle_verdict disk Flush) (aborted disk) (ne_eqb code 0xEA flush);
}
