-- What a port keeps is the headline.
use Rattle.std.proofs.Common.{◌≡◌, ℕ, ◌/◌, ◌≤◌, Bool, true, false, not, ◌&&◌, cond, List, length, ap, sym, refl, subst, ◌∙◌, Option, None, Some, is_some, IsSomeAnd, arith}
use Rattle.std.specs.Option.{option_map}
use Rattle.std.proofs.lemmas.Bool.{true≢false}
use Rattle.std.proofs.lemmas.List.{length-map}
use Rattle.std.proofs.Math.ListN.{get_or-map}
use Rattle.ahci_regs.specs.PortState.{PortState}
use Rattle.ahci_table.specs.Command.{op, queued_of}
use Rattle.ahci_table.specs.Window.{WindowState}
use Rattle.ncq_journal.specs.declared.outcome.Outcome.{Outcome}
use Rattle.ncq_journal.specs.declared.outcome.Outcome.TheVariants as outcome
use Rattle.ncq_journal.specs.Answer.{Answer}
use Rattle.ncq_core.specs.DiskState.{IsDisk, DiskState, outstanding}
use Rattle.ncq_journal.specs.Entry.{Entry}
use Rattle.ncq_journal.specs.Halted.{halted}
use Rattle.ncq_journal.specs.History.{History}
use Rattle.ncq_journal.specs.Laws.{is_answered}
use Rattle.ncq_journal.specs.Lawful.{IsLawful}
use Rattle.ncq_journal.specs.Phase.{phase}
use Rattle.ncq_journal.specs.Tags.{in_device, device_tags}
use Rattle.ncq_journal.proofs.AnsweredLemmas.{answered_by_phase}
use Rattle.word_bits.proofs.PlacesLemmas.{length-places, has_place-places, same_sets}
use Rattle.sata_fis.specs.Fields.{QueuedFields}
use Rattle.ahci_port.specs.Headline.{Headline, HasWindow, IsOfRequest, HoldsBytes}
use Rattle.ahci_port.specs.Keeping.{Keeps, HasSlot, slot_at}
use Rattle.ahci_port.specs.Looking.{HasShape}
use Rattle.ahci_port.specs.declared.sent.Sent.{Sent}
use Rattle.ahci_port.specs.Slots.{SlotState, answer_in, bytes_in, outstanding_in, window_in, view_of}
use Rattle.ahci_port.specs.declared.ended.Ended.{Ended}
use Rattle.ahci_port.proofs.AcceptingLemmas.{request_has}

holds_bytes : (o : Outcome) (w : WindowState) → HoldsBytes o (bytes_in o w) w
holds_bytes outcome.Read w = refl
holds_bytes outcome.Wrote w = tt
holds_bytes (outcome.Failed error lba) w = tt

holds_answer : (slot : SlotState) (o : Option Ended) → o ≡ slot.ended → is_some (answer_in slot) ≡ true → IsSomeAnd (answer_in slot) (λ a. HoldsBytes a.outcome a.bytes slot.window)
holds_answer slot None e some = absurd (true≢false
    (sym some ∙ sym (ap (λ x. is_some {T = Answer} (option_map (λ y. record { entry = y.entry; outcome = y.outcome; bytes = bytes_in y.outcome slot.window }) x)) e)))
holds_answer slot (Some x) e some = subst
    (λ y. IsSomeAnd {T = Answer} (option_map (λ z. record { entry = z.entry; outcome = z.outcome; bytes = bytes_in z.outcome slot.window }) y)
    (λ a. HoldsBytes a.outcome a.bytes slot.window)) e (holds_bytes x.outcome slot.window)

window_of_slot : (s d : ℕ) (starting : List ℕ) (past : List Entry) (tag : ℕ) (o : Option SlotState) → IsLawful s d past → HasSlot starting past tag o → HasWindow starting past tag (window_in o)
window_of_slot s d starting past tag None lawful h = h
window_of_slot s d starting past tag (Some slot) lawful h = (
  λ e. h.taken (sym h.phase_is ∙ e),
  h.fit,
  h.tag_is,
  request_has starting past tag slot (IsOfRequest starting past tag slot.window) h
      (record {
        work = refl;
        done = λ e.
            let some = answered_by_phase s d starting past tag (record { number = slot.place; work = op slot.window }) lawful h.request_is ∙ ap is_answered e in
            subst (λ a. IsSomeAnd a (λ b. HoldsBytes b.outcome b.bytes slot.window)) (sym h.answer_is) (holds_answer slot slot.ended refl (ap is_some (sym h.answer_is) ∙ some));
      }),
)

some_cond : (b : Bool) (q : QueuedFields) → is_some (cond b (Some q) None) ≡ b
some_cond true q = refl
some_cond false q = refl

device_at : (starting : List ℕ) (past : List Entry) (tag : ℕ) (o : Option SlotState) → HasSlot starting past tag o
    → is_some (outstanding_in (halted past) o) ≡ (in_device (phase past tag) && not (halted past))
device_at starting past tag None h = sym (ap (λ p. in_device p && not (halted past)) h)
device_at starting past tag (Some slot) h = some_cond (in_device slot.phase && not (halted past)) (queued_of slot.window) ∙ sym (ap (λ p. in_device p && not (halted past)) h.phase_is)

device_of : (starting : List ℕ) (disk : DiskState) (regs : PortState) (slots : List (Option SlotState)) (headers : List (List ℕ)) (past : List Entry) (free : ℕ)
    → Keeps starting disk regs slots headers past free → outstanding disk ≡ device_tags past
device_of starting disk regs slots headers past free k =
    same_sets (outstanding disk) (device_tags past) (length-map disk.commands is_some ∙ k.shape.command_count ∙ sym (length-places (λ t. in_device (phase past t) && not (halted past))))
    (λ i h.
    get_or-map is_some disk.commands i None ∙ ap is_some (k.commands i) ∙ device_at starting past i (slot_at slots i) (k.each i)
    ∙ sym (has_place-places (λ t. in_device (phase past t) && not (halted past)) i (let l = length-map disk.commands is_some in let c = k.shape.command_count in omega arith)))

pub headline_of : (starting : List ℕ) (disk : DiskState) (regs : PortState) (sent : Sent) (area : List ℕ) (slots : List (Option SlotState)) (headers : List (List ℕ)) (journal : History)
    → Keeps starting disk regs slots headers journal.past journal.room → Headline (view_of starting disk regs sent area slots journal)
headline_of starting disk regs sent area slots headers journal k = record {
  lawful = k.lawful;
  owned = λ tag. rw (get_or-map window_in slots tag None) (window_of_slot (length starting / 512) disk.depth starting journal.past tag (slot_at slots tag) k.lawful (k.each tag));
  st = k.tracks.st;
  fre = k.tracks.fre;
  sact_is = k.tracks.sact_is;
  ci_is = k.tracks.ci_is;
  device_is = device_of starting disk regs slots headers journal.past journal.room k;
  error_is = k.error_is;
  sectors = k.sectors;
}

pub shape_of : (starting : List ℕ) (disk : DiskState) (regs : PortState) (sent : Sent) (area : List ℕ) (slots : List (Option SlotState))
    (headers : List (List ℕ)) (journal : History)
    → Keeps starting disk regs slots headers journal.past journal.room → IsDisk disk → HasShape (view_of starting disk regs sent area slots journal)
shape_of starting disk regs sent area slots headers journal k d = record {
  some = k.shape.some_slot;
  most = k.shape.shallow;
  registers = k.tracks.depth_is;
  windows = length-map slots window_in ∙ k.shape.slot_count;
  whole = k.shape.whole;
  least = subst (λ n. 1 ≤ n / 512) k.shape.same_size d.least;
  few = k.shape.few;
  size = k.shape.same_size;
}
