-- A port keeps what it keeps at each entry of one tag.
use Rattle.std.proofs.Common.{◌≡◌, ◌≢◌, ℕ, ◌/◌, ◌<◌, ◌≤◌, Bool, true, false, List, [], ◌∷◌, length, set, get_or, sym, subst, ◌∙◌, Option, None, Some, arith, inl, inr}
use Rattle.std.proofs.lemmas.Bool.{cases_eq}
use Rattle.std.proofs.lemmas.List.{length-set, get_or-set_same, get_or-set_other}
use Rattle.ahci_regs.specs.PortState.{PortState}
use Rattle.ahci_table.specs.Command.{op}
use Rattle.sector_store.specs.Reserved.{StayReserved}
use Rattle.ncq_core.specs.DiskState.{DiskState, command_of, is_reserved_in}
use Rattle.ncq_core.specs.Serving.{HasRoom}
use Rattle.ncq_journal.specs.Entry.{Entry}
use Rattle.ncq_journal.specs.Halted.{halted}
use Rattle.ncq_journal.specs.Image.{sector_at}
use Rattle.ncq_journal.specs.Lawful.{IsAllowed, IsLawful}
use Rattle.ncq_journal.specs.Owed.{owed}
use Rattle.ncq_journal.specs.Phase.{phase}
use Rattle.ncq_journal.specs.Request.{request}
use Rattle.ncq_journal.specs.Sector.{sector}
use Rattle.ahci_port.specs.Keeping.{Keeps, HasSlot, HasHeader, HasSectors, slot_at}
use Rattle.ahci_port.specs.Slots.{SlotState, outstanding_in}
use Rattle.ahci_port.specs.Standing.{standing}
use Rattle.ahci_port.specs.Tracking.{Tracks}
use Rattle.ahci_port.proofs.AnswerLemmas.{answers, answer_stays}

-- another tag's slot says of it what it said
pub slot_stays : (starting : List ℕ) (past : List Entry) (entry : Entry) (u : ℕ) (s : Option SlotState)
    → phase (entry ∷ past) u ≡ phase past u → request (entry ∷ past) u ≡ request past u → answers entry u ≡ false → HasSlot starting past u s → HasSlot starting (entry ∷ past) u s
slot_stays starting past entry u None p r a h = p ∙ h
slot_stays starting past entry u (Some slot) p r a h = record {
  phase_is = p ∙ h.phase_is;
  taken = h.taken;
  request_is = r ∙ h.request_is;
  is_of = h.is_of;
  fit = h.fit;
  tag_is = h.tag_is;
  answer_is = answer_stays starting past entry u (record { number = slot.place; work = op slot.window }) h.request_is a ∙ h.answer_is;
}

-- what an entry of one tag leaves of the others
pub record Others (past : List Entry) (entry : Entry) (u : ℕ) : Type 0 where
  pub phase_same : phase (entry ∷ past) u ≡ phase past u
  pub request_same : request (entry ∷ past) u ≡ request past u
  pub unanswered : answers entry u ≡ false

-- what the disk is after an entry
pub record DiskAfter (starting : List ℕ) (disk after : DiskState) (slots : List (Option SlotState)) (past : List Entry) (entry : Entry) (tag : ℕ) (s : Option SlotState) : Type 0 where
  pub depth_same : after.depth ≡ disk.depth
  pub size_same : length after.image ≡ length disk.image
  pub count_same : length after.commands ≡ 32
  pub sectors : (i : ℕ) → sector_at after.image i ≡ sector starting (entry ∷ past) i
  pub error_is : after.error ≡ standing (entry ∷ past)
  pub own_command : command_of after tag ≡ outstanding_in (halted (entry ∷ past)) s
  pub other_commands : (u : ℕ) → u ≢ tag → command_of after u ≡ outstanding_in (halted (entry ∷ past)) (slot_at slots u)
  pub stay : StayReserved (is_reserved_in disk.reserved) (is_reserved_in after.reserved)
  pub own_room : HasSectors (length starting / 512) after.reserved s

-- what is reserved for a slot stays so
room_stays : (size : ℕ) (old new : List Bool) (write : Bool) (lba sectors : ℕ) → StayReserved (is_reserved_in old) (is_reserved_in new) → HasRoom size old write lba sectors → HasRoom size new write lba sectors
room_stays size old new false lba sectors stay h = tt
room_stays size old new true lba sectors stay h = λ fits s from below. stay s (h fits s from below)

pub sectors_stay : (size : ℕ) (old new : List Bool) (s : Option SlotState) → StayReserved (is_reserved_in old) (is_reserved_in new) → HasSectors size old s → HasSectors size new s
sectors_stay size old new None stay h = tt
sectors_stay size old new (Some slot) stay h = room_stays size old new slot.is_write slot.lba slot.sectors stay h

-- what the command list is after an entry
pub record HeadersAfter (headers after : List (List ℕ)) (tag : ℕ) (s : Option SlotState) : Type 0 where
  pub count_same : length after ≡ 32
  pub own_header : HasHeader after tag s
  pub other_headers : (u : ℕ) → u ≢ tag → get_or after u [] ≡ get_or headers u []

header_stays : (headers after : List (List ℕ)) (u : ℕ) (s : Option SlotState) → get_or after u [] ≡ get_or headers u [] → HasHeader headers u s → HasHeader after u s
header_stays headers after u None e h = h
header_stays headers after u (Some slot) e h = e ∙ h

-- one entry of a tag, with what its slot says of it afterwards
pub keeps_step : (starting : List ℕ) (disk after : DiskState) (registers moved : PortState) (slots : List (Option SlotState))
    (headers listed : List (List ℕ)) (past : List Entry) (free left tag : ℕ) (entry : Entry) (s : Option SlotState)
    → Keeps starting disk registers slots headers past free → tag < disk.depth → IsAllowed (length starting / 512) disk.depth past entry
    → ((u : ℕ) → u ≢ tag → Others past entry u) → HasSlot starting (entry ∷ past) tag s
    → DiskAfter starting disk after slots past entry tag s → HeadersAfter headers listed tag s → Tracks disk.depth (entry ∷ past) moved → owed (entry ∷ past) ≤ left
    → Keeps starting after moved (set slots tag s) listed (entry ∷ past) left
keeps_step starting disk after registers moved slots headers listed past free left tag entry s k below allowed others own d h tracks room =
    record {
      shape = rw (d.size_same, d.depth_same, d.count_same, length-set slots tag s, h.count_same) (rw (k.shape.command_count, k.shape.header_count) at k.shape);
      lawful = subst (λ n. IsLawful (length starting / 512) n (entry ∷ past)) (sym d.depth_same) (k.lawful, allowed);
      tracks = rw d.depth_same tracks;
      sectors = d.sectors;
      commands = commands;
      error_is = d.error_is;
      each = each;
      listed = lists;
      reserved = reserves;
      room = room;
    }
  where
    there : slot_at (set slots tag s) tag ≡ s
    there = get_or-set_same slots tag s None (let c = k.shape.slot_count in omega arith)

    apart : (u : ℕ) → u ≢ tag → slot_at (set slots tag s) u ≡ slot_at slots u
    apart u other = get_or-set_other slots tag u s None other

    commands : (u : ℕ) → command_of after u ≡ outstanding_in (halted (entry ∷ past)) (slot_at (set slots tag s) u)
    commands u = elim (cases_eq u tag) [
      | inl same ↦ rw (same, there) d.own_command
      | inr other ↦ rw (apart u other) (d.other_commands u other)
    ]

    each : (u : ℕ) → HasSlot starting (entry ∷ past) u (slot_at (set slots tag s) u)
    each u = elim (cases_eq u tag) [
      | inl same ↦ rw (same, there) own
      | inr other ↦ let o = others u other in rw (apart u other) (slot_stays starting past entry u (slot_at slots u) o.phase_same o.request_same o.unanswered (k.each u))
    ]

    lists : (u : ℕ) → HasHeader listed u (slot_at (set slots tag s) u)
    lists u = elim (cases_eq u tag) [
      | inl same ↦ rw (same, there) h.own_header
      | inr other ↦ rw (apart u other) (header_stays headers listed u (slot_at slots u) (h.other_headers u other) (k.listed u))
    ]

    reserves : (u : ℕ) → HasSectors (length starting / 512) after.reserved (slot_at (set slots tag s) u)
    reserves u = elim (cases_eq u tag) [
      | inl same ↦ rw (same, there) d.own_room
      | inr other ↦ rw (apart u other) (sectors_stay (length starting / 512) disk.reserved after.reserved (slot_at slots u) d.stay (k.reserved u))
    ]
