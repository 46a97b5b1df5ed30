-- What the port's fields say of its journal.
use Rattle.std.proofs.Common.{◌≡◌, ◌≢◌, ℕ, ◌/◌, ◌%◌, ◌<◌, ◌≤◌, Bool, true, false, cond, ◌||◌, List, [], ◌∷◌, length, map, replicate, ap, sym, refl, subst, ◌∙◌, Option, None, Some, is_some, IsSomeAnd, arith, inl, inr, zero, suc}
use Rattle.std.specs.Option.{option_map, option_or}
use Rattle.std.specs.Prelude.{Ok, nat_eq, nat_lt}
use Rattle.std.proofs.lemmas.Bool.{cases_lt, eqb-false, le-ltb, ltb-false, ne_eqb, or_parts, true≢false}
use Rattle.std.proofs.Math.ListN.{get_or-map}
use Rattle.std.proofs.lemmas.Option.{same_Some}
use Rattle.std.proofs.lemmas.List.{get_or-replicate, get_or_past, length-replicate, length-map}
use Rattle.ahci_regs.specs.PortState.{PortState}
use Rattle.ahci_table.specs.Command.{op}
use Rattle.ncq_journal.specs.declared.phase.Phase.{Phase}
use Rattle.ncq_journal.specs.declared.phase.Phase.TheVariants.{Free}
use Rattle.ncq_core.specs.DiskState.{DiskState, DiskError, IsDisk, disk_over, is_bad_depth, is_stopped, most_disk_sectors, most_sectors, over_fault, size_fault, no_commands, outstanding}
use Rattle.ncq_core.specs.declared.disk_fault.DiskFault.{DiskFault}
use Rattle.ncq_core.specs.declared.disk_fault.DiskFault.TheVariants as disk_fault
use Rattle.ncq_journal.specs.Entry.{Entry, Issue}
use Rattle.ncq_journal.specs.Halted.{halted}
use Rattle.ncq_journal.specs.History.{History}
use Rattle.ncq_journal.specs.Numbering.{number_of}
use Rattle.ncq_journal.specs.Owed.{owed, owed_in}
use Rattle.ncq_journal.specs.Phase.{phase}
use Rattle.ncq_journal.specs.Request.{request}
use Rattle.ncq_journal.proofs.EntryLemmas.{entry_at-within, request_is_its_issue}
use Rattle.ncq_journal.proofs.HaltedLemmas.{not_halted}
use Rattle.ncq_journal.proofs.TagLemmas.{sum_le}
use Rattle.word_bits.specs.Places.{no_places}
use Rattle.word_bits.proofs.PlacesLemmas.{length-no_places, has_place-no_places, same_sets}
use Rattle.ahci_port.specs.Faults.{AnswersOr, first_refusal, most_first, resume_fault_of}
use Rattle.ahci_port.specs.declared.fault.ResumeFault.TheVariants as resume
use Rattle.ahci_port.specs.Keeping.{Keeps, HasSlot, slot_at}
use Rattle.ahci_port.specs.PortView.{is_free, port_over}
use Rattle.ahci_port.specs.Registers.{acknowledged, started}
use Rattle.ahci_port.specs.Unqueued.{nothing_sent}
use Rattle.ahci_port.specs.Slots.{SlotState, phase_in, outstanding_in, view_of, window_in}
use Rattle.ahci_port.specs.Standing.{last_failure}
use Rattle.ahci_port.specs.Tracking.{Tracks}
use Rattle.ahci_port.proofs.FailingLemmas.{no_command, no_count}
use Rattle.ahci_port.proofs.FailureLemmas.{failed_tag}
use Rattle.ahci_port.proofs.RegisterLemmas.{tracks_acknowledge, tracks_new}

-- the slot has the tag's phase
pub phase_here : (starting : List ℕ) (past : List Entry) (tag : ℕ) (s : Option SlotState) → HasSlot starting past tag s → phase_in s ≡ phase past tag
phase_here starting past tag None h = sym h
phase_here starting past tag (Some slot) h = sym h.phase_is

pub taken_free : (p : Phase) → p ≢ Free → is_free p ≡ false
taken_free Free t = absurd (t refl)
taken_free _ t = refl

-- the number of the request that owns a tag's slot, where entries are numbered from a first one
abbrev pub owner : ℕ → List Entry → ℕ → Option ℕ
owner first past tag = cond (is_free (phase past tag)) None (option_map (λ r. number_of first r.number) (request past tag))

-- the slot has the place of its owner
pub owner_here : (starting : List ℕ) (past : List Entry) (first tag : ℕ) (s : Option SlotState) → HasSlot starting past tag s
    → option_map (number_of first) (option_map (λ x. x.place) s) ≡ owner first past tag
owner_here starting past first tag None h = sym (ap (λ p. cond (is_free p) None (option_map (λ r. number_of first r.number) (request past tag))) h)
owner_here starting past first tag (Some slot) h =
    sym (ap (λ b. cond b None (option_map (λ r. number_of first r.number) (request past tag))) (ap is_free h.phase_is ∙ taken_free slot.phase h.taken)
    ∙ ap (λ o. option_map (λ r. number_of first r.number) o) h.request_is)

-- the place is one of the journal's
pub owner_within : (starting : List ℕ) (past : List Entry) (tag place : ℕ) (s : Option SlotState) → HasSlot starting past tag s → option_map (λ x. x.place) s ≡ Some place → place < length past
owner_within starting past tag place None h e = absurd (cc)
owner_within starting past tag place (Some slot) h e =
    subst (λ n. n < length past) (same_Some slot.place place e)
    (entry_at-within past slot.place (Issue tag (op slot.window)) (request_is_its_issue past tag (record { number = slot.place; work = op slot.window }) h.request_is))

some_error : (o : Option DiskError) (P : DiskError → Type 0) → IsSomeAnd o P → is_some o ≡ true
some_error None P h = absurd h
some_error (Some e) P h = refl

-- the disk has stopped exactly where the port is halted
pub stopped_here : (starting : List ℕ) (disk : DiskState) (regs : PortState) (slots : List (Option SlotState)) (headers : List (List ℕ)) (past : List Entry) (free : ℕ)
    → Keeps starting disk regs slots headers past free → is_stopped disk ≡ halted past
stopped_here starting disk regs slots headers past free k = ap is_some k.error_is ∙ by (halted past) refl
  where
    by : (b : Bool) → halted past ≡ b → is_some (cond (halted past) (last_failure past) None) ≡ halted past
    by true e = ap (λ b. is_some (cond b (last_failure past) None)) e ∙ some_error (last_failure past) _ (failed_tag (length starting / 512) disk.depth past k.shape.shallow k.lawful e) ∙ sym e
    by false e = ap (λ b. is_some (cond b (last_failure past) None)) e ∙ sym e

-- the registers alone move
pub keeps_registers : (starting : List ℕ) (disk : DiskState) (regs moved : PortState) (slots : List (Option SlotState)) (headers : List (List ℕ)) (past : List Entry) (free : ℕ)
    → Keeps starting disk regs slots headers past free → Tracks disk.depth past moved → Keeps starting disk moved slots headers past free
keeps_registers starting disk regs moved slots headers past free k tracks =
    record { shape = k.shape; lawful = k.lawful; tracks = tracks; sectors = k.sectors; commands = k.commands; error_is = k.error_is; each = k.each; listed = k.listed; reserved = k.reserved; room = k.room }

pub keeps_acknowledge : (starting : List ℕ) (disk : DiskState) (regs : PortState) (slots : List (Option SlotState)) (headers : List (List ℕ)) (past : List Entry) (free mask : ℕ)
    → Keeps starting disk regs slots headers past free → Keeps starting disk (acknowledged regs mask) slots headers past free
keeps_acknowledge starting disk regs slots headers past free mask k =
    keeps_registers starting disk regs (acknowledged regs mask) slots headers past free k (tracks_acknowledge disk.depth past regs mask k.tracks)

-- every slot of a new port is free
vacant : (depth u : ℕ) → slot_at (replicate depth None) u ≡ None
vacant depth u = elim (cases_lt u depth) [
  | inl low ↦ get_or-replicate depth u None None low
  | inr high ↦ get_or_past (replicate depth None) u None (let l : length (replicate {A = Option SlotState} depth None) ≡ depth = length-replicate depth None in omega arith)
]

-- a port that has done nothing has not halted, and owes nothing
pub calm_at_first : halted [] ≡ false
calm_at_first = not_halted [] (λ t low. refl)

pub nothing_owed : owed [] ≤ 0
nothing_owed = sum_le (λ tag. owed_in (phase [] tag)) 0 (λ tag. omega arith)

-- a port that goes on is made where a disk is
pub resumed : {T : Type 0} (x : T) (fault : Option DiskFault) (first : ℕ) → AnswersOr {T = T} (Ok x) fault disk_fault.OutOfMemory → nat_lt most_first first ≡ false
    → AnswersOr {T = T} (Ok x) (first_refusal fault first) resume.OutOfMemory
resumed x fault first made low = by fault (nat_lt most_first first) made low
  where
    by : (o : Option DiskFault) (b : Bool) → AnswersOr (Ok x) o disk_fault.OutOfMemory → b ≡ false
        → AnswersOr (Ok x) (option_or (option_map resume_fault_of o) (cond b (Some resume.BadFirst) None)) resume.OutOfMemory
    by None false h e = tt
    by None true h e = absurd (true≢false e)
    by (Some f) b h e = absurd (cc)

-- a new port
pub keeps_new : (image : List ℕ) (grows : Bool) (reserved : List Bool) (depth : ℕ) (headers : List (List ℕ)) → IsDisk (disk_over image image grows reserved depth) → length headers ≡ 32
    → Keeps image (disk_over image image grows reserved depth) (started depth) (replicate depth None) headers [] 0
keeps_new image grows reserved depth headers d count = record {
  shape = record {
    whole = d.whole;
    few = d.most;
    some_slot = d.deep;
    shallow = d.shallow;
    same_size = refl;
    command_count = d.count;
    slot_count = length-replicate depth None;
    header_count = count;
  };
  lawful = tt;
  tracks = tracks_new depth;
  sectors = λ s. refl;
  commands = λ u. no_command u ∙ sym (ap (outstanding_in (halted [])) (vacant depth u));
  error_is = sym (ap (λ b. cond b (last_failure []) None) calm_at_first);
  each = λ u. rw (vacant depth u) refl;
  listed = λ u. rw (vacant depth u) tt;
  reserved = λ u. rw (vacant depth u) tt;
  room = nothing_owed;
}

-- nothing is outstanding in a new disk
none_in_device : (image : List ℕ) (grows : Bool) (reserved : List Bool) (depth : ℕ) → outstanding (disk_over image image grows reserved depth) ≡ no_places
none_in_device image grows reserved depth =
    same_sets (outstanding (disk_over image image grows reserved depth)) no_places (length-map no_commands is_some ∙ no_count ∙ sym length-no_places)
    (λ i h. get_or-map is_some no_commands i None ∙ ap is_some (no_command i) ∙ sym (has_place-no_places i))

no_windows : (n : ℕ) → map window_in (replicate n None) ≡ replicate n None
no_windows zero = refl
no_windows (suc n) = ap (λ xs. None ∷ xs) (no_windows n)

-- a journal is the same where all that callers see of it is
pub same_journal : (j : History) (first : ℕ) (past : List Entry) (room held : ℕ) → j.first ≡ first → j.past ≡ past → j.room ≡ room → j.held ≡ held
    → j ≡ record { first = first; past = past; room = room; held = held }
same_journal j first past room held f p r h =
    ap (λ n. let k : History = record { first = n; past = j.past; room = j.room; held = j.held } in k) f
    ∙ ap (λ l. let k : History = record { first = first; past = l; room = j.room; held = j.held } in k) p
    ∙ ap (λ n. let k : History = record { first = first; past = past; room = n; held = j.held } in k) r
    ∙ ap (λ n. let k : History = record { first = first; past = past; room = room; held = n } in k) h

-- what callers see of it
pub view_new : (first : ℕ) (image : List ℕ) (grows : Bool) (reserved : List Bool) (depth : ℕ) (journal : History) → journal ≡ record { first = first; past = []; room = 0; held = 0 }
    → view_of image (disk_over image image grows reserved depth) (started depth) nothing_sent (replicate 256 0) (replicate depth None) journal ≡ port_over grows first image depth
view_new first image grows reserved depth journal empty =
    ap (λ j. view_of image (disk_over image image grows reserved depth) (started depth) nothing_sent (replicate 256 0) (replicate depth None) j) empty
    ∙ ap (λ d. record (port_over grows first image depth) { device = d; windows = map window_in (replicate depth None) }) (none_in_device image grows reserved depth)
    ∙ ap (λ w. record (port_over grows first image depth) { windows = w }) (no_windows depth)

-- where an image in memory makes a disk, so does a store with it
pub over_may : (bytes depth : ℕ) → size_fault bytes depth ≡ None → over_fault (bytes / 512) depth ≡ None
over_may bytes depth none = by (nat_eq bytes 0 || nat_lt 0 (bytes % 512) || nat_lt most_disk_sectors (bytes / 512)) (is_bad_depth depth) refl refl none
  where
    sized : (nat_eq bytes 0 || nat_lt 0 (bytes % 512) || nat_lt most_disk_sectors (bytes / 512)) ≡ false → (nat_eq (bytes / 512) 0 || nat_lt most_sectors (bytes / 512)) ≡ false
    sized fine =
        let outer = or_parts (nat_eq bytes 0 || nat_lt 0 (bytes % 512)) (nat_lt most_disk_sectors (bytes / 512)) fine in
        let inner = or_parts (nat_eq bytes 0) (nat_lt 0 (bytes % 512)) outer.0 in
        let whole : bytes % 512 ≤ 0 = ltb-false 0 (bytes % 512) inner.1 in
        let few : bytes / 512 ≤ 131072 = ltb-false 131072 (bytes / 512) outer.1 in
        let some : nat_eq (bytes / 512) 0 ≡ false = ne_eqb (bytes / 512) 0 (λ e. eqb-false bytes 0 inner.0 (omega arith)) in
        let most : nat_lt most_sectors (bytes / 512) ≡ false = le-ltb 4294967295 (bytes / 512) (omega arith) in
        ap (λ b. b || nat_lt most_sectors (bytes / 512)) some ∙ most

    by : (a b : Bool) → (nat_eq bytes 0 || nat_lt 0 (bytes % 512) || nat_lt most_disk_sectors (bytes / 512)) ≡ a → is_bad_depth depth ≡ b
        → cond a (Some disk_fault.BadSize) (cond b (Some disk_fault.BadDepth) None) ≡ None → over_fault (bytes / 512) depth ≡ None
    by true b p q h = absurd (cc)
    by false true p q h = absurd (cc)
    by false false p q h = ap (λ c. cond c (Some disk_fault.BadSize) (cond (is_bad_depth depth) (Some disk_fault.BadDepth) None)) (sized p) ∙ ap (λ c. cond c (Some disk_fault.BadDepth) None) q
