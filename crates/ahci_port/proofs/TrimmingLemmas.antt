-- A port whose slots are all free keeps what it keeps without its journal.
use Rattle.std.proofs.Common.{◌≡◌, ℕ, zero, suc, ◌/◌, Bool, true, false, cond, not, List, [], ◌∷◌, ◌++◌, length, map, ap, sym, refl, subst, ◌∙◌, Option, None, Some, is_some, arith}
use Rattle.std.specs.List.{list_any}
use Rattle.std.specs.Prelude.{nat_lt}
use Rattle.std.proofs.lemmas.Bool.{true≢false}
use Rattle.std.proofs.lemmas.List.{get_or_past}
use Rattle.ahci_regs.specs.PortState.{PortState}
use Rattle.ncq_core.specs.DiskState.{DiskState}
use Rattle.ncq_journal.specs.Entry.{Entry}
use Rattle.ncq_journal.specs.Halted.{halted}
use Rattle.ncq_journal.specs.Lawful.{IsLawful}
use Rattle.ncq_journal.specs.Laws.{AllFree}
use Rattle.ncq_journal.specs.Phase.{phase, is_failed}
use Rattle.ncq_journal.specs.Sector.{sector}
use Rattle.ncq_journal.specs.Tags.{ci, in_ci, in_sact, sact}
use Rattle.ncq_journal.proofs.CutLemmas.{lawful_of_parts}
use Rattle.ncq_journal.proofs.HaltedLemmas.{not_halted}
use Rattle.ncq_journal.proofs.PartLemmas.{two_parts}
use Rattle.word_bits.proofs.PlacesLemmas.{places_none}
use Rattle.ahci_port.specs.Faults.{most_first, trim_refusal}
use Rattle.ahci_port.specs.Keeping.{Keeps, HasSlot, slot_at}
use Rattle.ahci_port.specs.PortView.{PortView, next_number}
use Rattle.ahci_port.specs.Slots.{SlotState, outstanding_in, window_in}
use Rattle.ahci_port.specs.Standing.{last_failure}
use Rattle.ahci_port.specs.declared.fault.TrimFault.TheVariants.{Busy, Spent}
use Rattle.ahci_port.proofs.ReadingLemmas.{calm_at_first, nothing_owed}

-- no slot has a window: none is owned
pub vacant_all : (slots : List (Option SlotState)) → list_any is_some (map window_in slots) ≡ false → (tag : ℕ) → slot_at slots tag ≡ None
vacant_all [] e tag = get_or_past [] tag None (omega arith)
vacant_all (None ∷ slots) e zero = refl
vacant_all (None ∷ slots) e (suc tag) = vacant_all slots e tag
vacant_all (Some slot ∷ slots) e tag = absurd (true≢false e)

-- a slot is owned where it has a window
pub windows_owned : (slots : List (Option SlotState)) → list_any is_some slots ≡ list_any is_some (map window_in slots)
windows_owned [] = refl
windows_owned (None ∷ slots) = windows_owned slots
windows_owned (Some slot ∷ slots) = refl

-- what no refusal of a trim says
pub trim_may : (port : PortView) → trim_refusal port ≡ None → list_any is_some port.windows ≡ false
trim_may port e = by (list_any is_some port.windows) (nat_lt most_first (next_number port)) refl e
  where
    by : (a b : Bool) → list_any is_some port.windows ≡ a → cond (not a) (cond b (Some Spent) None) (Some Busy) ≡ None → list_any is_some port.windows ≡ false
    by true b p h = absurd (cc)
    by false b p h = p

pub all_free : (starting : List ℕ) (disk : DiskState) (regs : PortState) (slots : List (Option SlotState)) (headers : List (List ℕ)) (past : List Entry) (free : ℕ)
    → Keeps starting disk regs slots headers past free → ((tag : ℕ) → slot_at slots tag ≡ None) → AllFree past
all_free starting disk regs slots headers past free k none tag = subst (HasSlot starting past tag) (none tag) (k.each tag)

same_sact : (past : List Entry) → AllFree past → sact past ≡ sact []
same_sact past free =
    places_none (λ t. in_sact (phase past t)) (λ t low. ap in_sact (free t)) ∙ sym (places_none (λ t. in_sact (phase [] t)) (λ t low. refl))

same_ci : (past : List Entry) → AllFree past → ci past ≡ ci []
same_ci past free = places_none (λ t. in_ci (phase past t)) (λ t low. ap in_ci (free t)) ∙ sym (places_none (λ t. in_ci (phase [] t)) (λ t low. refl))

pub keeps_trim : (starting : List ℕ) (disk : DiskState) (regs : PortState) (slots : List (Option SlotState)) (headers : List (List ℕ)) (past : List Entry) (free : ℕ) (reserved : List Bool)
    → Keeps starting disk regs slots headers past free → ((tag : ℕ) → slot_at slots tag ≡ None) → Keeps disk.image (record disk { starting = disk.image; reserved = reserved }) regs slots headers [] 0
keeps_trim starting disk regs slots headers past free reserved k none = record {
  shape = rw k.shape.same_size (rw k.shape.same_size at k.shape);
  lawful = tt;
  tracks = record {
    depth_is = k.tracks.depth_is;
    st = k.tracks.st;
    fre = k.tracks.fre;
    sact_is = k.tracks.sact_is ∙ same_sact past free_now;
    ci_is = k.tracks.ci_is ∙ same_ci past free_now;
  };
  sectors = λ s. refl;
  commands = λ u. k.commands u ∙ ap (outstanding_in (halted past)) (none u) ∙ sym (ap (outstanding_in (halted [])) (none u));
  error_is = k.error_is ∙ ap (λ b. cond b (last_failure past) None) calm ∙ sym (ap (λ b. cond b (last_failure []) None) calm_at_first);
  each = λ u. rw (none u) refl;
  listed = λ u. rw (none u) tt;
  reserved = λ u. rw (none u) tt;
  room = nothing_owed;
}
  where
    free_now : AllFree past
    free_now = all_free starting disk regs slots headers past free k none

    calm : halted past ≡ false
    calm = not_halted past (λ t low. ap is_failed (free_now t))

-- what comes later speaks of the whole history
pub goes_on : (starting : List ℕ) (disk : DiskState) (regs : PortState) (slots : List (Option SlotState)) (headers : List (List ℕ)) (past : List Entry) (free : ℕ)
    → Keeps starting disk regs slots headers past free → AllFree past → (later : List Entry) → IsLawful (length disk.image / 512) disk.depth later
    → (s : ℕ) → sector disk.image later s ≡ sector starting (later ++ past) s
goes_on starting disk regs slots headers past free k none later h s =
    let n = length starting / 512 in
    let own = subst (λ size. IsLawful (size / 512) disk.depth later) k.shape.same_size h in
    sym ((two_parts n disk.depth starting disk.image later past ((lawful_of_parts n disk.depth later past k.lawful none).1 own) none k.sectors).1 s)
