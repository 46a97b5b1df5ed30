-- What a port has that issues a command.
use Rattle.std.proofs.Common.{◌≡◌, ℕ, ◌*◌, ◌/◌, ◌^◌, ◌<◌, ◌≤◌, Bool, true, false, cond, ◌||◌, nat_eq, ltb, List, length, leb, ap, sym, refl, ◌∙◌, subst, Option, None, Some, arith}
use Rattle.std.specs.Option.{option_map}
use Rattle.std.proofs.lemmas.Bool.{false≢true, leb-false, leb-true}
use Rattle.ahci_table.specs.Command.{op, queued_of}
use Rattle.ahci_table.specs.Fit.{Breaks, IsFit}
use Rattle.ahci_table.specs.Text.{text}
use Rattle.ahci_table.specs.Window.{WindowState}
use Rattle.ahci_table.specs.declared.fault.TableFault.{TableFault}
use Rattle.ahci_table.specs.declared.fault.TableFault.TheVariants as table
use Rattle.ncq_journal.specs.declared.phase.Phase.{Phase}
use Rattle.ncq_journal.specs.declared.phase.Phase.TheVariants.{Free}
use Rattle.ncq_journal.specs.Entry.{Entry}
use Rattle.ncq_journal.specs.Halted.{halted}
use Rattle.ncq_journal.specs.Lawful.{IsProper, most_sectors}
use Rattle.ncq_journal.specs.Phase.{phase}
use Rattle.ahci_port.specs.Faults.{MayTake, RefusesIssue, early_refusal, submit_refusal}
use Rattle.ahci_port.specs.Keeping.{HasSlot}
use Rattle.ahci_port.specs.Moves.{issue_fault_of}
use Rattle.ahci_port.specs.PortView.{PortView, is_free}
use Rattle.ahci_port.specs.Slots.{SlotState}
use Rattle.ahci_port.specs.declared.fault.IssueFault.{IssueFault}
use Rattle.ahci_port.specs.declared.fault.IssueFault.TheVariants as issue
use Rattle.ahci_port.specs.declared.fault.SubmitFault.TheVariants as submit
use Rattle.ahci_port.proofs.MemoryLemmas.{fit_sized}
use Rattle.ahci_port.proofs.WorkLemmas.{op_read, op_write}

free_is : (p : Phase) → is_free p ≡ true → p ≡ Free
free_is Free e = refl
free_is _ e = absurd (false≢true e)

-- what no early refusal says
pub early_may : (port : PortView) (tag : ℕ) → early_refusal port tag ≡ None → MayTake port tag
early_may port tag e = by (halted port.past) (leb port.depth tag) (is_free (phase port.past tag)) refl refl refl e
  where
    by : (a b x : Bool) → halted port.past ≡ a → leb port.depth tag ≡ b → is_free (phase port.past tag) ≡ x
        → cond a (Some issue.Halted) (cond b (Some issue.NoSuchTag) (cond x None (Some issue.SlotOwned))) ≡ None → MayTake port tag
    by true b x p q r h = absurd (cc)
    by false true x p q r h = absurd (cc)
    by false false true p q r h = record { running = p; below = leb-false port.depth tag q; free = free_is (phase port.past tag) r }
    by false false false p q r h = absurd (cc)

-- an early refusal is one of an issue
pub early_refuses : (port : PortView) (w : WindowState) (f : IssueFault) → early_refusal port w.tag ≡ Some f → RefusesIssue port w f
early_refuses port w f e = by (halted port.past) (leb port.depth w.tag) (is_free (phase port.past w.tag)) refl refl refl e
  where
    by : (a b x : Bool) → halted port.past ≡ a → leb port.depth w.tag ≡ b → is_free (phase port.past w.tag) ≡ x
        → cond a (Some issue.Halted) (cond b (Some issue.NoSuchTag) (cond x None (Some issue.SlotOwned))) ≡ Some f → RefusesIssue port w f
    by true b x p q r h = let same : issue.Halted ≡ f = cc in subst (RefusesIssue port w) same p
    by false true x p q r h = let same : issue.NoSuchTag ≡ f = cc in subst (RefusesIssue port w) same (p, leb-true port.depth w.tag q)
    by false false true p q r h = absurd (cc)
    by false false false p q r h =
        let same : issue.SlotOwned ≡ f = cc in
        subst (RefusesIssue port w) same (p, leb-false port.depth w.tag q, (λ free. false≢true (sym r ∙ ap is_free free)))

-- a command that may be submitted is one that the port takes
pub submit_may : (port : PortView) (tag lba sectors : ℕ) → submit_refusal port tag lba sectors ≡ None → MayTake port tag
submit_may port tag lba sectors e =
    early_may port tag (by (nat_eq sectors 0 || ltb most_sectors sectors) (leb (2 ^ 48) lba) (early_refusal port tag) e)
  where
    by : (a b : Bool) (early : Option IssueFault) → cond a (Some submit.BadCount) (cond b (Some submit.BadLba) (option_map submit.Issue early)) ≡ None → early ≡ None
    by true b early h = absurd (cc)
    by false true early h = absurd (cc)
    by false false None h = refl
    by false false (Some fault) h = absurd (cc)

-- a window that breaks a rule is refused for it
pub refuses_rule : (port : PortView) (w : WindowState) (f : TableFault) → MayTake port w.tag → Breaks w f → RefusesIssue port w (issue_fault_of f)
refuses_rule port w table.BadHeader may breaks = (may, breaks)
refuses_rule port w _ may breaks = (may, breaks)

-- the slot of a free tag is empty
pub vacant_slot : (starting : List ℕ) (past : List Entry) (tag : ℕ) (s : Option SlotState) → HasSlot starting past tag s → phase past tag ≡ Free → s ≡ None
vacant_slot starting past tag None h e = refl
vacant_slot starting past tag (Some slot) h e = absurd (h.taken (sym h.phase_is ∙ e))

-- the command of a fit window can be issued
pub op_proper : (w : WindowState) → IsFit w → (queued_of w).lba < 2 ^ 48 → 1 ≤ (queued_of w).sectors → (queued_of w).sectors ≤ most_sectors → IsProper (op w)
op_proper w fit low some short = by (queued_of w).write refl
  where
    by : (b : Bool) → (queued_of w).write ≡ b → IsProper (op w)
    by false e = subst IsProper (sym (op_read w e)) (record { some = some; most = short; lba = low; whole = tt })
    by true e =
        let sized = fit_sized w fit in
        let bytes = text w in
        let whole : length (text w) ≡ 512 * (length (text w) / 512) = omega arith in
        let few : 1 ≤ length (text w) / 512 = omega arith in
        let most : length (text w) / 512 ≤ most_sectors = omega (arith, sized, short) in
        subst IsProper (sym (op_write w e)) (record { some = few; most = most; lba = low; whole = whole })
