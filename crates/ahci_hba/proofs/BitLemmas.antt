-- A slot leaves PxCI and PxSACT exactly with the answer to its command.
use Rattle.std.proofs.Common.{◌≡◌, ℕ, Bool, true, false, not, ◌&&◌, List, nat_eq, bit_and, bit_or, if◌then◌else◌, refl, ap, sym, ◌∙◌, ⊎_elim}
use Rattle.std.proofs.lemmas.Bool.Decides.{eqb_tells}
use Rattle.word_bits.specs.Places.{bits, has_place, minus, with_place, without_place}
use Rattle.word_bits.proofs.PlacesLemmas.{and_false, and_true, has_place-minus, has_place-without_other, has_place-without_same}
use Rattle.hba_regs.specs.HbaState.{HbaPort}
use Rattle.hba_regs.specs.InterfaceErrors.{accepts_fis}
use Rattle.hba_regs.specs.PortStates.{bsy_or_drq_of, cfis_success, ended_by_signature, err_fatal_taskfile, err_of, pio_clear_ci, pio_set_intr, reg_fis_clear_ci, reg_fis_set_intr, sdb_set_intr}
use Rattle.hba_regs.specs.Receiving.{after_srst_cleared}
use Rattle.hba_regs.specs.declared.soft_reset.SoftReset.{SoftReset}
use Rattle.hba_regs.specs.declared.soft_reset.SoftReset.TheVariants.{Off, Held, Ending}
use Rattle.ahci_hba.specs.Transitions.{Transition, CfisSuccess, DrOverflow, ErrFatal, PioEntry, PioUpdate, PrdSetIntr, RegFisEntry, RegFisPostToMem, RegFisUnsolicited, RegFisUpdate}
use Rattle.ahci_hba.specs.Transitions.{SdbEntry, SelectCmd, SrstCleared, SrstSet, Stuck, UnknownFis, after, answers_command, answers_tag, ends_reset}

leaves : (s : List Bool) (a i : ℕ) → has_place (without_place s a) i ≡ (has_place s i && not (nat_eq a i))
leaves s a i =
    ⊎_elim (λ e. ap (λ x. has_place (without_place s x) i) e.1 ∙ has_place-without_same s i ∙ sym (ap (λ b. has_place s i && not b) e.0 ∙ and_false (has_place s i)))
    (λ e. has_place-without_other s a i (λ x. e.1 (sym x)) ∙ sym (ap (λ b. has_place s i && not b) e.0 ∙ and_true (has_place s i))) (eqb_tells a i)

stays : (b : Bool) → b ≡ (b && not false)
stays b = sym (and_true b)

-- by C of its header
sends : (p : HbaPort) (s slot : ℕ) (c : Bool) → has_place (cfis_success s c p).ci slot ≡ (has_place p.ci slot && not (c && nat_eq s slot))
sends p s slot true = leaves p.ci s slot
sends p s slot false = stays (has_place p.ci slot)

-- by ERR, and by BSY and DRQ: with neither the slot's bit goes
ends : (err busy x : Bool) (fails waits clears : HbaPort) (s slot : ℕ) → has_place fails.ci slot ≡ x → has_place waits.ci slot ≡ x
    → has_place clears.ci slot ≡ (x && not (nat_eq s slot))
    → has_place (if err then fails else if busy then waits else clears).ci slot ≡ (x && not ((not err && not busy) && nat_eq s slot))
ends true busy x fails waits clears s slot f w c = f ∙ stays x
ends false true x fails waits clears s slot f w c = w ∙ stays x
ends false false x fails waits clears s slot f w c = c

registers : (p : HbaPort) (status error : ℕ) (i : Bool) (s slot : ℕ) → has_place (after (RegFisEntry status error i s) p).ci slot
    ≡ (has_place p.ci slot && not (answers_command (RegFisEntry status error i s) p slot))
registers p status error i s slot =
    let q : HbaPort = record p { sts = status; err = error } in
    ends (err_of status) (bsy_or_drq_of status) (has_place p.ci slot) (err_fatal_taskfile (reg_fis_set_intr i q)) (reg_fis_set_intr i q) (reg_fis_clear_ci i s q) s slot
    refl refl (leaves p.ci s slot)

moves_data : (p : HbaPort) (e_status error : ℕ) (i : Bool) (s slot : ℕ) → has_place (after (PioUpdate e_status error i s) p).ci slot
    ≡ (has_place p.ci slot && not (answers_command (PioUpdate e_status error i s) p slot))
moves_data p e_status error i s slot =
    let q : HbaPort = record p { sts = e_status; err = error } in
    ends (err_of e_status) (bsy_or_drq_of e_status) (has_place p.ci slot) (err_fatal_taskfile (pio_set_intr i q)) (pio_set_intr i q) (pio_clear_ci i s q) s slot
    refl refl (leaves p.ci s slot)

signs : (p : HbaPort) (soft : SoftReset) (slot : ℕ) → has_place (ended_by_signature soft p.ci) slot ≡ (has_place p.ci slot && not (ends_reset soft slot))
signs p Off slot = stays (has_place p.ci slot)
signs p Held slot = stays (has_place p.ci slot)
signs p (Ending s) slot = leaves p.ci s slot

unsolicited : (p : HbaPort) (slot : ℕ) (b : Bool)
    → (has_place (if b then reg_fis_set_intr true (record p { sts = 0x50; err = 0x00 }) else record p { sts = 0x50; err = 0x00 }).ci slot ≡ has_place p.ci slot)
    × (has_place (if b then reg_fis_set_intr true (record p { sts = 0x50; err = 0x00 }) else record p { sts = 0x50; err = 0x00 }).sact slot ≡ has_place p.sact slot)
unsolicited p slot true = (refl, refl)
unsolicited p slot false = (refl, refl)

releases : (p : HbaPort) (s slot : ℕ) (soft : SoftReset)
    → (has_place (after_srst_cleared p s soft).ci slot ≡ has_place p.ci slot) × (has_place (after_srst_cleared p s soft).sact slot ≡ has_place p.sact slot)
releases p s slot Off = (refl, refl)
releases p s slot Held = (refl, refl)
releases p s slot (Ending x) = (refl, refl)

sets_bits : (p : HbaPort) (status error : ℕ) (i : Bool) (sactive slot : ℕ) → (has_place (after (SdbEntry status error i sactive) p).ci slot ≡ has_place p.ci slot)
    × (has_place (after (SdbEntry status error i sactive) p).sact slot ≡ (has_place p.sact slot && not (has_place (bits sactive) slot)))
sets_bits p status error i sactive slot = by (err_of status)
  where
    q : HbaPort
    q = record p { sts = bit_or (bit_and p.sts 0x88) (bit_and status 0x77); err = error; sact = minus p.sact (bits sactive) }

    by : (e : Bool) → (has_place (if e then err_fatal_taskfile (sdb_set_intr i q) else sdb_set_intr i q).ci slot ≡ has_place p.ci slot)
        × (has_place (if e then err_fatal_taskfile (sdb_set_intr i q) else sdb_set_intr i q).sact slot ≡ (has_place p.sact slot && not (has_place (bits sactive) slot)))
    by true = (refl, has_place-minus p.sact (bits sactive) slot)
    by false = (refl, has_place-minus p.sact (bits sactive) slot)

unknown : (p : HbaPort) (slot : ℕ) (b : Bool)
    → (has_place (if b then record p { serr = with_place p.serr 25 } else p).ci slot ≡ has_place p.ci slot)
    × (has_place (if b then record p { serr = with_place p.serr 25 } else p).sact slot ≡ has_place p.sact slot)
unknown p slot true = (refl, refl)
unknown p slot false = (refl, refl)

pub issued : (t : Transition) (p : HbaPort) (slot : ℕ) → has_place (after t p).ci slot ≡ (has_place p.ci slot && not (answers_command t p slot))
issued (SelectCmd s) p slot = stays (has_place p.ci slot)
issued (CfisSuccess s c) p slot = sends p s slot c
issued (Stuck s c) p slot = sends p s slot c
issued (RegFisEntry status error i s) p slot = registers p status error i s slot
issued (SdbEntry status error i sactive) p slot = (sets_bits p status error i sactive slot).0 ∙ stays (has_place p.ci slot)
issued (PioEntry status) p slot = stays (has_place p.ci slot)
issued (PioUpdate e_status error i s) p slot = moves_data p e_status error i s slot
issued DrOverflow p slot = stays (has_place p.ci slot)
issued PrdSetIntr p slot = stays (has_place p.ci slot)
issued (ErrFatal f) p slot = stays (has_place p.ci slot)
issued RegFisUnsolicited p slot = (unsolicited p slot p.st).0 ∙ stays (has_place p.ci slot)
issued (RegFisUpdate kind) p slot = signs p p.soft slot
issued RegFisPostToMem p slot = stays (has_place p.ci slot)
issued SrstSet p slot = stays (has_place p.ci slot)
issued (SrstCleared s) p slot = (releases p s slot p.soft).0 ∙ stays (has_place p.ci slot)
issued UnknownFis p slot = (unknown p slot (accepts_fis p)).0 ∙ stays (has_place p.ci slot)

-- what stays in PxSACT
keeps : (p : HbaPort) (s slot : ℕ) (c : Bool) → has_place (cfis_success s c p).sact slot ≡ has_place p.sact slot
keeps p s slot true = refl
keeps p s slot false = refl

keeps_register : (p : HbaPort) (status error : ℕ) (i : Bool) (s slot : ℕ) → has_place (after (RegFisEntry status error i s) p).sact slot ≡ has_place p.sact slot
keeps_register p status error i s slot = by (err_of status) (bsy_or_drq_of status)
  where
    q : HbaPort
    q = record p { sts = status; err = error }

    by : (e b : Bool) → has_place (if e then err_fatal_taskfile (reg_fis_set_intr i q) else if b then reg_fis_set_intr i q else reg_fis_clear_ci i s q).sact slot ≡ has_place p.sact slot
    by true b = refl
    by false true = refl
    by false false = refl

keeps_data : (p : HbaPort) (e_status error : ℕ) (i : Bool) (s slot : ℕ) → has_place (after (PioUpdate e_status error i s) p).sact slot ≡ has_place p.sact slot
keeps_data p e_status error i s slot = by (err_of e_status) (bsy_or_drq_of e_status)
  where
    q : HbaPort
    q = record p { sts = e_status; err = error }

    by : (e b : Bool) → has_place (if e then err_fatal_taskfile (pio_set_intr i q) else if b then pio_set_intr i q else pio_clear_ci i s q).sact slot ≡ has_place p.sact slot
    by true b = refl
    by false true = refl
    by false false = refl

pub active : (t : Transition) (p : HbaPort) (slot : ℕ) → has_place (after t p).sact slot ≡ (has_place p.sact slot && not (answers_tag t slot))
active (SelectCmd s) p slot = stays (has_place p.sact slot)
active (CfisSuccess s c) p slot = keeps p s slot c ∙ stays (has_place p.sact slot)
active (Stuck s c) p slot = keeps p s slot c ∙ stays (has_place p.sact slot)
active (RegFisEntry status error i s) p slot = keeps_register p status error i s slot ∙ stays (has_place p.sact slot)
active (SdbEntry status error i sactive) p slot = (sets_bits p status error i sactive slot).1
active (PioEntry status) p slot = stays (has_place p.sact slot)
active (PioUpdate e_status error i s) p slot = keeps_data p e_status error i s slot ∙ stays (has_place p.sact slot)
active DrOverflow p slot = stays (has_place p.sact slot)
active PrdSetIntr p slot = stays (has_place p.sact slot)
active (ErrFatal f) p slot = stays (has_place p.sact slot)
active RegFisUnsolicited p slot = (unsolicited p slot p.st).1 ∙ stays (has_place p.sact slot)
active (RegFisUpdate kind) p slot = stays (has_place p.sact slot)
active RegFisPostToMem p slot = stays (has_place p.sact slot)
active SrstSet p slot = stays (has_place p.sact slot)
active (SrstCleared s) p slot = (releases p s slot p.soft).1 ∙ stays (has_place p.sact slot)
active UnknownFis p slot = (unknown p slot (accepts_fis p)).1 ∙ stays (has_place p.sact slot)
