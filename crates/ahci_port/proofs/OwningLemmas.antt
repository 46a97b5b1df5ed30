-- The slot of a tag that isn't free.
use Rattle.std.proofs.Common.{◌≡◌, ◌≢◌, ℕ, ◌<◌, Bool, true, false, cond, List, length, map, set, get_or, ap, sym, refl, ◌∙◌, Option, None, Some, arith}
use Rattle.std.proofs.lemmas.Bool.{false≢true}
use Rattle.std.proofs.lemmas.List.{get_or_read}
use Rattle.std.proofs.lemmas.Option.{same_Some}
use Rattle.std.proofs.Math.Seq.{map-set_same}
use Rattle.ahci_regs.specs.PortState.{PortState}
use Rattle.ncq_journal.specs.declared.phase.Phase.{Phase}
use Rattle.ncq_journal.specs.declared.phase.Phase.TheVariants.{Free, Held}
use Rattle.ncq_core.specs.DiskState.{DiskState}
use Rattle.ncq_journal.specs.Entry.{Entry, Reissue}
use Rattle.ncq_journal.specs.Halted.{halted}
use Rattle.ncq_journal.specs.Phase.{phase}
use Rattle.ncq_journal.proofs.OwedLemmas.{owed_moves}
use Rattle.ahci_port.specs.Faults.{is_held, reissue_refusal}
use Rattle.ahci_port.specs.Keeping.{Keeps, Holds, HasSlot, slot_at}
use Rattle.ahci_port.specs.PortView.{PortView}
use Rattle.ahci_port.specs.Slots.{SlotState, window_in}
use Rattle.ahci_port.specs.declared.fault.ReissueFault.TheVariants as reissue
use Rattle.ahci_port.proofs.CollectingLemmas.{within}

pub record Owned (starting : List ℕ) (past : List Entry) (slots : List (Option SlotState)) (tag : ℕ) : Type 0 where
  pub slot : SlotState
  pub here : slot_at slots tag ≡ Some slot
  pub below : tag < length slots
  pub low : tag < 32
  pub holds : Holds starting past tag slot

pub owned : (starting : List ℕ) (disk : DiskState) (regs : PortState) (slots : List (Option SlotState)) (headers : List (List ℕ)) (past : List Entry) (free tag : ℕ)
    → Keeps starting disk regs slots headers past free → phase past tag ≢ Free → Owned starting past slots tag
owned starting disk regs slots headers past free tag k taken = by (slot_at slots tag) refl (k.each tag)
  where
    by : (s : Option SlotState) → slot_at slots tag ≡ s → HasSlot starting past tag s → Owned starting past slots tag
    by None e h = absurd (taken h)
    by (Some slot) e h =
        let in_list = within slots tag slot e in
        record { slot = slot; here = e; below = in_list; low = (let c = k.shape.slot_count in let s = k.shape.shallow in omega arith); holds = h }

-- the slot that a call finds at the tag is the owner's
pub owner_is : {starting : List ℕ} {past : List Entry} {slots : List (Option SlotState)} {tag : ℕ} (o : Owned starting past slots tag) (found : Option SlotState) (slot : SlotState)
    → found ≡ get_or slots tag found → found ≡ Some slot → o.slot ≡ slot
owner_is o found slot read is = same_Some o.slot slot (sym o.here ∙ sym (get_or_read _ _ _ o.below read None) ∙ is)

held_is : (p : Phase) → is_held p ≡ true → p ≡ Held
held_is Held e = refl
held_is _ e = absurd (false≢true e)

-- where nothing refuses a call: what would refuse it doesn't hold, and what it needs does
pub no_reason : {F : Type 0} (against needed : Bool) (x y : F) → cond against (Some x) (cond needed None (Some y)) ≡ None → (against ≡ false) × (needed ≡ true)
no_reason true needed x y e = absurd (cc)
no_reason false true x y e = (refl, refl)
no_reason false false x y e = absurd (cc)

-- what no fault of a reissue says
pub reissue_may : (port : PortView) (tag : ℕ) → reissue_refusal port tag ≡ None → (phase port.past tag ≡ Held) × (halted port.past ≡ false)
reissue_may port tag e =
    let neither = no_reason (halted port.past) (is_held (phase port.past tag)) reissue.Halted reissue.NotHeld e in
    (held_is (phase port.past tag) neither.1, neither.0)

pub held_taken : (past : List Entry) (tag : ℕ) → phase past tag ≡ Held → phase past tag ≢ Free
held_taken past tag e f = absurd (let z : Held ≡ Free = sym e ∙ f in cc)

pub reissue_room : (starting : List ℕ) (disk : DiskState) (regs : PortState) (slots : List (Option SlotState)) (headers : List (List ℕ)) (past : List Entry) (free tag : ℕ)
    → Keeps starting disk regs slots headers past free → phase past tag ≡ Held → halted past ≡ false → 0 < free
reissue_room starting disk regs slots headers past free tag k held running =
    let moves = owed_moves _ disk.depth past (Reissue tag) k.shape.shallow (k.lawful, (held, running)) in
    let r = k.room in
    omega arith

-- what a tag has whose command is issued again
pub record Reissuing (starting : List ℕ) (past : List Entry) (slots : List (Option SlotState)) (free tag : ℕ) : Type 0 where
  pub held : phase past tag ≡ Held
  pub running : halted past ≡ false
  pub owner : Owned starting past slots tag
  pub room : 0 < free

pub reissuing : (starting : List ℕ) (disk : DiskState) (regs : PortState) (slots : List (Option SlotState)) (headers : List (List ℕ)) (past : List Entry) (free tag : ℕ) (port : PortView)
    → Keeps starting disk regs slots headers past free → past ≡ port.past → reissue_refusal port tag ≡ None → Reissuing starting past slots free tag
reissuing starting disk regs slots headers past free tag port k same none =
    let m = reissue_may port tag none in
    let held : phase past tag ≡ Held = ap (λ h. phase h tag) same ∙ m.0 in
    let running : halted past ≡ false = ap halted same ∙ m.1 in
    record {
      held = held;
      running = running;
      owner = owned starting disk regs slots headers past free tag k (held_taken past tag held);
      room = reissue_room starting disk regs slots headers past free tag k held running;
    }

-- a slot that keeps its window leaves the windows
pub windows_same : (slots : List (Option SlotState)) (tag : ℕ) (slot next : SlotState) → slot_at slots tag ≡ Some slot
    → next.window ≡ slot.window → map window_in (set slots tag (Some next)) ≡ map window_in slots
windows_same slots tag slot next here same = map-set_same window_in slots tag (Some next) None (ap (λ w. Some w) same ∙ sym (ap window_in here))
