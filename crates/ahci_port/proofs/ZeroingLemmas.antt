-- A port whose slots are all free keeps what it keeps while sectors become zeros.
use Rattle.std.proofs.Common.{◌≡◌, ◌∙◌, ℕ, ◌/◌, ◌≤◌, Bool, true, false, cond, List, ◌∷◌, length, ap, refl, Option, None, Some, is_some, not, arith}
use Rattle.std.specs.List.{list_any}
use Rattle.std.specs.Option.{option_map, option_or}
use Rattle.std.proofs.lemmas.Bool.Decides.{nat_tests}
use Rattle.ahci_regs.specs.PortState.{PortState}
use Rattle.ncq_core.specs.DiskState.{DiskState}
use Rattle.ncq_journal.specs.Entry.{Entry, Zero}
use Rattle.ncq_journal.specs.Halted.{busy, halted}
use Rattle.ncq_journal.specs.Image.{IsZeroedOver, zeroed}
use Rattle.ncq_journal.specs.Lawful.{LieOn}
use Rattle.ncq_journal.specs.Laws.{AllFree}
use Rattle.ncq_journal.specs.Phase.{is_busy, is_failed}
use Rattle.ncq_journal.proofs.HaltedLemmas.{not_busy, not_halted}
use Rattle.ncq_journal.proofs.OwedLemmas.{owed_is_few}
use Rattle.ahci_port.specs.Faults.{lacks_sectors, plain_refusal, run_refusal, zero_fault_of, zero_refusal}
use Rattle.ahci_port.specs.Keeping.{Keeps, slot_at}
use Rattle.ahci_port.specs.PortView.{PortView, sectors_in}
use Rattle.ahci_port.specs.Slots.{SlotState}
use Rattle.ahci_port.specs.declared.fault.PlainFault.{PlainFault}
use Rattle.ahci_port.specs.declared.fault.ZeroFault.TheVariants as zero
use Rattle.ahci_port.proofs.TrimmingLemmas.{all_free}

-- what no refusal says: no slot is owned, and the sectors are the disk's
pub record IsTaken (port : PortView) (lba sectors : ℕ) : Type 0 where
  pub vacant : list_any is_some port.windows ≡ false
  pub lie : LieOn (sectors_in port) lba sectors

lies : (size lba sectors : ℕ) → lacks_sectors size lba sectors ≡ false → LieOn size lba sectors
lies size lba sectors h = grind (arith, nat_tests)

run_may : (port : PortView) (lba sectors : ℕ) → run_refusal port lba sectors ≡ None → IsTaken port lba sectors
run_may port lba sectors h = by (list_any is_some port.windows) (lacks_sectors (sectors_in port) lba sectors) refl refl h
  where
    by : (a b : Bool) → list_any is_some port.windows ≡ a → lacks_sectors (sectors_in port) lba sectors ≡ b
        → cond (not a) (cond b (Some zero.NoSuchSector) None) (Some zero.SlotOwned) ≡ None → IsTaken port lba sectors
    by true b p q e = absurd (cc)
    by false true p q e = absurd (cc)
    by false false p q e = record { vacant = p; lie = lies (sectors_in port) lba sectors q }

pub zero_may : (port : PortView) (lba sectors : ℕ) → zero_refusal port lba sectors ≡ None → IsTaken port lba sectors
zero_may port lba sectors h = by (plain_refusal port) h
  where
    by : (o : Option PlainFault) → option_or (option_map zero_fault_of o) (run_refusal port lba sectors) ≡ None → IsTaken port lba sectors
    by None e = run_may port lba sectors e
    by (Some fault) e = absurd (cc)

-- sectors become zeros
pub keeps_zero : (starting : List ℕ) (disk : DiskState) (regs : PortState) (slots : List (Option SlotState)) (headers : List (List ℕ)) (past : List Entry) (free left : ℕ)
    (image : List ℕ) (reserved : List Bool) (lba sectors : ℕ) → Keeps starting disk regs slots headers past free → ((tag : ℕ) → slot_at slots tag ≡ None)
    → LieOn (length starting / 512) lba sectors → length image ≡ length disk.image → IsZeroedOver lba sectors disk.image image → 128 ≤ left
    → Keeps starting (record disk { image = image; reserved = reserved }) regs slots headers (Zero lba sectors ∷ past) left
keeps_zero starting disk regs slots headers past free left image reserved lba sectors k none lie len zeros room = record {
  shape = rw len k.shape;
  lawful = (k.lawful, (lie, (calm, still)));
  tracks = record { depth_is = k.tracks.depth_is; st = k.tracks.st; fre = k.tracks.fre; sact_is = k.tracks.sact_is; ci_is = k.tracks.ci_is };
  sectors = λ s. zeros s ∙ ap (zeroed lba sectors s) (k.sectors s);
  commands = k.commands;
  error_is = k.error_is;
  each = λ u. rw (none u) (free_now u);
  listed = k.listed;
  reserved = λ u. rw (none u) tt;
  room = (let few = owed_is_few (Zero lba sectors ∷ past) in omega arith);
}
  where
    free_now : AllFree past
    free_now = all_free starting disk regs slots headers past free k none

    calm : halted past ≡ false
    calm = not_halted past (λ t low. ap is_failed (free_now t))

    still : busy past ≡ false
    still = not_busy past (λ t low. ap is_busy (free_now t))
