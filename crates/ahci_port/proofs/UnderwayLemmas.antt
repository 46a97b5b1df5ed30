-- What holds between the commands of a list that is served: all but the registers, which hear of them at the end.
use Rattle.std.proofs.Common.{◌≡◌, ◌≢◌, ℕ, ◌+◌, ◌<◌, ◌≤◌, ◌^◌, true, false, List, [], ◌∷◌, length, map, set, take, get_or, ap, sym, refl, subst, ◌∙◌, Option, None, Some, IsSomeAnd, bit_or, inl, inr, arith}
use Rattle.std.specs.Prelude.{slice_index}
use Rattle.std.specs.List.{fold}
use Rattle.std.proofs.Math.ListN.{get_or-map}
use Rattle.std.proofs.lemmas.Bool.{cases_eq}
use Rattle.std.proofs.lemmas.List.{get_or-set_same, get_or-set_other, take_all}
use Rattle.ahci_regs.specs.PortState.{PortState}
use Rattle.ahci_regs.specs.Receiving.{after_bits}
use Rattle.ahci_regs.proofs.LawLemmas.{ended_by_one}
use Rattle.ahci_table.specs.Command.{op, queued_of}
use Rattle.ahci_table.specs.Window.{WindowState}
use Rattle.ncq_core.specs.DiskState.{DiskState}
use Rattle.ncq_core.specs.Serving.{served}
use Rattle.ncq_journal.specs.declared.phase.Phase.TheVariants.{Accepted, Done}
use Rattle.ncq_journal.specs.Entry.{Entry, Complete}
use Rattle.ncq_journal.specs.Halted.{halted}
use Rattle.ncq_journal.specs.History.{History}
use Rattle.ncq_journal.specs.Phase.{phase, is_failed}
use Rattle.ahci_port.specs.Keeping.{Keeps, slot_at}
use Rattle.ahci_port.specs.Moves.{served_slot}
use Rattle.ahci_port.specs.PortView.{PortView, window_at}
use Rattle.ahci_port.specs.Registers.{completed, word_of_tags}
use Rattle.ahci_port.specs.Serving.{CompletesOne}
use Rattle.ahci_port.specs.Slots.{SlotState, window_in}
use Rattle.ahci_port.specs.Steps.{HasMoved, IsNoneOf, MovesData, completes, with_setup}
use Rattle.ahci_port.proofs.FailureLemmas.{halted_same}
use Rattle.ahci_port.proofs.ListLemmas.{MayServe, fold_next}
use Rattle.ahci_port.proofs.MemoryLemmas.{fit_sized, moved_window}
use Rattle.ahci_port.proofs.ReadingLemmas.{keeps_registers}
use Rattle.ahci_port.proofs.RegisterLemmas.{tracks_bits}
use Rattle.ahci_port.proofs.ServedLemmas.{Serving, moves_data, serving}
use Rattle.ahci_port.proofs.ServingLemmas.{keeps_serve}
use Rattle.ahci_port.proofs.SetLemmas.{own, other}

-- the port before the first command, and the tags
pub record Start : Type 0 where
  pub starting : List ℕ
  pub registers : PortState
  pub slots : List (Option SlotState)
  pub headers : List (List ℕ)
  pub past : List Entry
  pub area : List ℕ
  pub depth : ℕ
  pub tags : List ℕ

pub tag_of : Start → ℕ → ℕ
tag_of s k = slice_index s.tags k

-- the window of the k-th command has moved its data
abbrev pub HasMovedIn : Start → List (Option SlotState) → ℕ → Type 0
HasMovedIn s slots k =
    IsSomeAnd (slot_at s.slots (slice_index s.tags k)) (λ a.
    IsSomeAnd (slot_at slots (slice_index s.tags k)) (λ b. MovesData s.starting (completes s.past (take k s.tags)) (op a.window) a.window b.window))

-- the first commands are served
pub record Underway (s : Start) (count : ℕ) (disk : DiskState) (slots : List (Option SlotState)) (area : List ℕ) (past : List Entry) (free : ℕ) : Type 0 where
  pub keeps : Keeps s.starting disk (completed s.registers (take count s.tags)) slots s.headers past free
  pub depth_same : disk.depth ≡ s.depth
  pub past_is : past ≡ completes s.past (take count s.tags)
  pub running : halted past ≡ false
  pub waiting : (k : ℕ) → count ≤ k → k < length s.tags → phase past (slice_index s.tags k) ≡ Accepted
  pub area_is : area ≡ fold (λ area tag. with_setup (window_in (slot_at s.slots tag)) area) s.area (take count s.tags)
  pub moved : (k : ℕ) → k < count → HasMovedIn s slots k
  pub others_same : (tag : ℕ) → ((k : ℕ) → k < count → slice_index s.tags k ≢ tag) → slot_at slots tag ≡ slot_at s.slots tag

pub underway_first : (s : Start) (disk : DiskState) (free : ℕ) → Keeps s.starting disk s.registers s.slots s.headers s.past free → disk.depth ≡ s.depth
    → MayServe s.past s.tags → Underway s 0 disk s.slots s.area s.past free
underway_first s disk free k depth may = record {
  keeps = keeps_registers s.starting disk s.registers (completed s.registers (take 0 s.tags)) s.slots s.headers s.past free k (tracks_bits disk.depth s.past s.registers k.tracks);
  depth_same = depth;
  past_is = refl;
  running = may.running;
  waiting = λ n up low. may.accepted n low;
  area_is = refl;
  moved = λ n low. absurd (omega arith);
  others_same = λ tag none. refl;
}

-- what the next command needs
pub next_serving : (s : Start) (count : ℕ) (disk : DiskState) (slots : List (Option SlotState)) (area : List ℕ) (past : List Entry) (free : ℕ) → Underway s count disk slots area past free
    → count < length s.tags → Serving s.starting disk past slots free (slice_index s.tags count)
next_serving s count disk slots area past free u low =
    serving s.starting disk (completed s.registers (take count s.tags)) slots s.headers past free (slice_index s.tags count) u.keeps (u.waiting count (omega arith) low) u.running

-- one command more
pub underway_next : (s : Start) (count : ℕ) (disk disk' : DiskState) (slots : List (Option SlotState)) (found slot' : SlotState) (area area' : List ℕ) (journal journal' : History)
    → MayServe s.past s.tags → (u : Underway s count disk slots area journal.past journal.room) → (low : count < length s.tags)
    → (next_serving s count disk slots area journal.past journal.room u low).owner.slot ≡ found
    → CompletesOne (slice_index s.tags count) disk disk' found slot' area area' journal journal'
    → Underway s (count + 1) disk' (set slots (slice_index s.tags count) (Some slot')) area' journal'.past journal'.room
underway_next s count disk disk' slots found slot' area area' journal journal' may u low same one = record {
  keeps = keeps;
  depth_same = ap (λ d. d.depth) c.disk_is ∙ u.depth_same;
  past_is = past_is;
  running = ap halted c.past_is ∙ still ∙ u.running;
  waiting = λ k up under.
      ap (λ p. phase p (slice_index s.tags k)) c.past_is ∙ other tag (slice_index s.tags k) Done (phase journal.past (slice_index s.tags k)) (λ e. may.apart count k (omega arith) under (sym e))
      ∙ u.waiting k (omega arith) under;
  area_is = c.area_is ∙ ap (λ w. with_setup w area) (sym first_window) ∙ ap (with_setup (window_in (slot_at s.slots tag))) u.area_is
      ∙ sym (fold_next (λ a t. with_setup (window_in (slot_at s.slots t)) a) s.area s.tags count low);
  moved = moved;
  others_same = λ v none.
      get_or-set_other slots tag v next None (λ e. none count (omega arith) (sym e)) ∙ u.others_same v (λ k under. none k (omega arith));
}
  where
    tag : ℕ
    tag = slice_index s.tags count

    t : Serving s.starting disk journal.past slots journal.room (slice_index s.tags count)
    t = next_serving s count disk slots area journal.past journal.room u low

    slot : SlotState
    slot = t.owner.slot

    c : CompletesOne (slice_index s.tags count) disk disk' t.owner.slot slot' area area' journal journal'
    c = subst (λ x. CompletesOne (slice_index s.tags count) disk disk' x slot' area area' journal journal') (sym same) one

    next : Option SlotState
    next = Some slot'

    next_is : next ≡ Some (served_slot t.owner.slot (length journal.past) slot'.window)
    next_is = ap (λ x. Some x) c.slot_is

    past_is : journal'.past ≡ completes s.past (take (count + 1) s.tags)
    past_is = c.past_is ∙ ap (λ p. Complete tag ∷ p) u.past_is ∙ sym (fold_next (λ p v. Complete v ∷ p) s.past s.tags count low)

    still : halted (Complete tag ∷ journal.past) ≡ halted journal.past
    still = halted_same journal.past (Complete tag) tag (ap is_failed t.accepted) (ap is_failed (own tag Done (phase journal.past tag))) (λ v apart. other tag v Done (phase journal.past v) apart)

    regs_are : after_bits (completed s.registers (take count s.tags)) 0x40 0 true (2 ^ tag) ≡ completed s.registers (take (count + 1) s.tags)
    regs_are = ended_by_one s.registers 0x40 0 true (word_of_tags (take count s.tags)) (2 ^ tag)
        ∙ ap (after_bits s.registers 0x40 0 true) (sym (fold_next (λ w v. bit_or w (2 ^ v)) 0 s.tags count low))

    keeps : Keeps s.starting disk' (completed s.registers (take (count + 1) s.tags)) (set slots tag next) s.headers journal'.past journal'.room
    keeps =
        let kept_all = keeps_serve s.starting disk (completed s.registers (take count s.tags)) slots s.headers journal.past journal.room journal'.room tag slot disk'.image disk'.reserved slot'.window
        u.keeps c.stay t.accepted t.running t.owner.here (fit_sized slot.window t.owner.holds.fit) c.data_moved
        (moved_window (queued_of slot.window) slot.window slot'.window disk.image disk'.image refl t.owner.holds.fit c.fit c.kept c.data_moved)
        c.room_is in
        rw (c.past_is, ← regs_are)
        (subst (λ d. Keeps s.starting d (after_bits (completed s.registers (take count s.tags)) 0x40 0 true (2 ^ tag)) (set slots tag next) s.headers (Complete tag ∷ journal.past) journal'.room)
        (sym c.disk_is)
        (subst (λ n. Keeps s.starting (served disk tag disk'.image disk'.reserved) (after_bits (completed s.registers (take count s.tags)) 0x40 0 true (2 ^ tag)) (set slots tag n) s.headers
        (Complete tag ∷ journal.past) journal'.room) (sym next_is) kept_all))

    -- the slot had not been served before
    first_slot : slot_at s.slots tag ≡ Some slot
    first_slot = sym (u.others_same tag (λ k under. may.apart k count under low)) ∙ t.owner.here

    first_window : window_in (slot_at s.slots tag) ≡ Some slot.window
    first_window = ap window_in first_slot

    moves : MovesData s.starting (completes s.past (take count s.tags)) (op slot.window) slot.window slot'.window
    moves = subst (λ p. MovesData s.starting p (op slot.window) slot.window slot'.window) u.past_is
        (moves_data s.starting journal.past disk.image disk'.image slot.window slot'.window u.keeps.sectors t.owner.holds.fit c.fit c.kept c.data_moved)

    moved : (k : ℕ) → k < count + 1 → HasMovedIn s (set slots tag next) k
    moved k under = elim (cases_eq k count) [
      | inl here ↦
          let there : slot_at (set slots tag next) (slice_index s.tags k) ≡ next =
          ap (λ n. slot_at (set slots tag next) (slice_index s.tags n)) here ∙ get_or-set_same slots tag next None t.owner.below in
          let before : slot_at s.slots (slice_index s.tags k) ≡ Some slot = ap (λ n. slot_at s.slots (slice_index s.tags n)) here ∙ first_slot in
          let at_k = subst (λ n. MovesData s.starting (completes s.past (take n s.tags)) (op slot.window) slot.window slot'.window) (sym here) moves in
          rw (there, before) at_k
      | inr apart ↦
          let earlier : slot_at (set slots tag next) (slice_index s.tags k) ≡ slot_at slots (slice_index s.tags k) =
          get_or-set_other slots tag (slice_index s.tags k) next None (may.apart k count (omega arith) low) in
          rw earlier (u.moved k (omega arith))
    ]

-- ---- the whole list

window_there : (port : PortView) (slots : List (Option SlotState)) (tag : ℕ) → port.windows ≡ map window_in slots → window_at port tag ≡ window_in (slot_at slots tag)
window_there port slots tag same = ap (λ x. get_or x tag None) same ∙ get_or-map window_in slots tag None

in_windows : (P : WindowState → WindowState → Type 0) (a b : Option SlotState) → IsSomeAnd a (λ x. IsSomeAnd b (λ y. P x.window y.window)) → IsSomeAnd (window_in a) (λ w. IsSomeAnd (window_in b) (P w))
in_windows P None b h = absurd h
in_windows P (Some x) None h = absurd h
in_windows P (Some x) (Some y) h = h

pub moved_all : (s : Start) (disk : DiskState) (slots : List (Option SlotState)) (area : List ℕ) (past : List Entry) (free count : ℕ) (old new : PortView) → Underway s count disk slots area past free
    → old.starting ≡ s.starting → old.past ≡ s.past → old.windows ≡ map window_in s.slots → new.windows ≡ map window_in slots → (k : ℕ) → k < count → HasMoved s.tags old new k
moved_all s disk slots area past free count old new u starts pasts olds news k low =
    let moves = in_windows (λ w v. MovesData s.starting (completes s.past (take k s.tags)) (op w) w v) (slot_at s.slots (slice_index s.tags k)) (slot_at slots (slice_index s.tags k)) (u.moved k low) in
    rw (window_there old s.slots (slice_index s.tags k) olds, window_there new slots (slice_index s.tags k) news, starts, pasts) moves

pub others_all : (s : Start) (disk : DiskState) (slots : List (Option SlotState)) (area : List ℕ) (past : List Entry) (free : ℕ) (old new : PortView)
    → Underway s (length s.tags) disk slots area past free → old.windows ≡ map window_in s.slots → new.windows ≡ map window_in slots → (tag : ℕ) → IsNoneOf s.tags tag
    → window_at new tag ≡ window_at old tag
others_all s disk slots area past free old new u olds news tag none =
    window_there new slots tag news ∙ ap window_in (u.others_same tag none) ∙ sym (window_there old s.slots tag olds)

same_fold : {X : Type 0} (f g : X → ℕ → X) → ((x : X) (n : ℕ) → f x n ≡ g x n) → (x : X) (list : List ℕ) → fold f x list ≡ fold g x list
same_fold f g same x [] = refl
same_fold f g same x (n ∷ list) = ap (λ y. fold f y list) (same x n) ∙ same_fold f g same (g x n) list

pub area_all : (s : Start) (disk : DiskState) (slots : List (Option SlotState)) (area : List ℕ) (past : List Entry) (free : ℕ) (old : PortView) → Underway s (length s.tags) disk slots area past free
    → old.windows ≡ map window_in s.slots → area ≡ fold (λ a tag. with_setup (window_at old tag) a) s.area s.tags
area_all s disk slots area past free old u olds =
    u.area_is ∙ ap (fold (λ a tag. with_setup (window_in (slot_at s.slots tag)) a) s.area) (take_all (length s.tags) s.tags (omega arith))
    ∙ same_fold (λ a tag. with_setup (window_in (slot_at s.slots tag)) a) (λ a tag. with_setup (window_at old tag) a) (λ a tag. ap (λ w. with_setup w a) (sym (window_there old s.slots tag olds)))
    s.area s.tags

pub past_all : (s : Start) (disk : DiskState) (slots : List (Option SlotState)) (area : List ℕ) (past : List Entry) (free : ℕ) → Underway s (length s.tags) disk slots area past free
    → past ≡ completes s.past s.tags
past_all s disk slots area past free u = u.past_is ∙ ap (completes s.past) (take_all (length s.tags) s.tags (omega arith))

pub keeps_all : (s : Start) (disk : DiskState) (slots : List (Option SlotState)) (area : List ℕ) (past : List Entry) (free : ℕ) → Underway s (length s.tags) disk slots area past free
    → Keeps s.starting disk (completed s.registers s.tags) slots s.headers past free
keeps_all s disk slots area past free u =
    subst (λ l. Keeps s.starting disk (completed s.registers l) slots s.headers past free) (take_all (length s.tags) s.tags (omega arith)) u.keeps

-- the tags of a port's commands are below 32
pub tags_low : (s : Start) (disk : DiskState) (free : ℕ) → Keeps s.starting disk s.registers s.slots s.headers s.past free → MayServe s.past s.tags → (k : ℕ) → k < length s.tags
    → slice_index s.tags k < 32
tags_low s disk free keeps may k low = (serving s.starting disk s.registers s.slots s.headers s.past free (slice_index s.tags k) keeps (may.accepted k low) may.running).owner.low
