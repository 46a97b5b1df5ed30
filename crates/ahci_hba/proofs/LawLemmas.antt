-- Which slot's command is fetched next, that a device in Sleep answers none, and that a halted port takes no step.
use Rattle.std.proofs.Common.{◌≡◌, ℕ, zero, suc, ◌<◌, ◌≤◌, Bool, true, false, not, nat_lt, ◌&&◌, Option, Some, None, if◌then◌else◌, refl, ap, inl, inr, arith}
use Rattle.std.specs.List.{list_any, range_with_len}
use Rattle.std.proofs.lemmas.Bool.{and_parts, cases_Bool, ltb-true}
use Rattle.std.proofs.lemmas.List.Folds.{Any-from_list_any}
use Rattle.std.proofs.lemmas.List.FromFn.{get_or-range_with_len}
use Rattle.hba_regs.specs.HbaState.{HbaPort}
use Rattle.hba_regs.specs.Linking.{is_up}
use Rattle.hba_regs.specs.PortStates.{p_idle_selects}
use Rattle.hba_command.specs.Power.{is_awake}
use Rattle.hba_command.specs.declared.power.Power.{Power}
use Rattle.hba_command.specs.declared.power.Power.TheVariants.{Sleep}
use Rattle.ahci_hba.specs.HbaView.{HbaView, DmaView, Idle}
use Rattle.ahci_hba.specs.Stepping.{answers, delivers_for, may_control, may_deliver, may_execute, may_recover, next_step, queue_step}
use Rattle.ahci_hba.specs.declared.step.Step.{Step}
use Rattle.ahci_hba.specs.declared.step.Step.TheVariants as step
use Rattle.ahci_hba.specs.Queueing.{distance_of, has_alone, is_before, is_idle, is_listening, is_off, is_overtaken, is_ready, is_running, may_fetch, waits}

-- a slot that overtakes another one
closer : (h : HbaView) (slot : ℕ) → is_overtaken h slot ≡ true
    → (other : ℕ) × (other < 32) × (waits h other ≡ true) × (distance_of h.registers.port other < distance_of h.registers.port slot)
closer h slot e =
    let a = Any-from_list_any (is_before h slot) (range_with_len 0 32) e in
    let p = and_parts (waits h a.1) (nat_lt (distance_of h.registers.port a.1) (distance_of h.registers.port slot)) a.4 in
    let few : a.0 < 32 = a.2 in
    (a.1, omega (arith, few, a.3, get_or-range_with_len 0 32 a.0 a.1 few), p.0, ltb-true (distance_of h.registers.port a.1) (distance_of h.registers.port slot) p.1)

-- among the slots that wait, some one is not overtaken
pub next_from : (h : HbaView) (n slot : ℕ) → slot < 32 → distance_of h.registers.port slot ≤ n → waits h slot ≡ true
    → (next : ℕ) × (next < 32) × (waits h next ≡ true) × (is_overtaken h next ≡ false)
next_from h zero slot l d w =
    elim (cases_Bool (is_overtaken h slot)) [
      | inl e ↦ let o = closer h slot e in let nearer = o.3 in absurd (omega (arith, d, nearer))
      | inr e ↦ (slot, l, w, e)
    ]
next_from h (suc n) slot l d w =
    elim (cases_Bool (is_overtaken h slot)) [
      | inl e ↦ let o = closer h slot e in let nearer = o.3 in next_from h n o.0 o.1 (omega (arith, d, nearer)) o.2
      | inr e ↦ (slot, l, w, e)
    ]

-- the steps behind a fetch, in their order
abbrev later : HbaView → ℕ → Option Step
later h slot =
    if may_control h slot then Some step.Control
    else if may_execute h slot then Some step.Execute
    else if may_recover h slot then Some step.Recover
    else queue_step h slot

-- its command can be fetched
pub some_is_next : (h : HbaView) (slot : ℕ) → is_listening h ≡ true → p_idle_selects h.registers.port ≡ true → list_any has_alone h.slots ≡ false → slot < 32
    → waits h slot ≡ true → (next : ℕ) × (next < 32) × (next_step h next ≡ Some step.Fetch)
some_is_next h slot listening free alone l w =
    let found = next_from h (distance_of h.registers.port slot) slot l (omega arith) w in
    let may : may_fetch h found.0 ≡ true = rw (listening, free, found.2, found.3, alone) refl in
    (found.0, found.1, ap (λ b. if b then Some step.Fetch else later h found.0) may)

-- in ERR:WaitForClear the port doesn't process commands, and each step wants that it does
halted_stops : (p : HbaPort) → p.halted ≡ true → is_running p ≡ false
halted_stops p e = by p.st p.halted (is_up p.link) e
  where
    by : (st halted up : Bool) → halted ≡ true → (st && not halted && up) ≡ false
    by true true up e = refl
    by false true up e = refl
    by st false up e = cc

pub halted_takes_none : (h : HbaView) (slot : ℕ) → h.registers.port.halted ≡ true → next_step h slot ≡ None
halted_takes_none h slot e = rw (halted_stops h.registers.port e) refl

-- nor does it without a link
down_stops : (p : HbaPort) → is_up p.link ≡ false → is_running p ≡ false
down_stops p e = by p.st p.halted (is_up p.link) e
  where
    by : (st halted up : Bool) → up ≡ false → (st && not halted && up) ≡ false
    by true false up e = e
    by true true up e = refl
    by false halted up e = refl

pub down_takes_none : (h : HbaView) (slot : ℕ) → is_up h.registers.port.link ≡ false → next_step h slot ≡ None
down_takes_none h slot e = rw (down_stops h.registers.port e) refl

-- in Sleep the device isn't ready, and each step with a command wants that it is, but for an answer that was begun
asleep_waits : (h : HbaView) → h.power ≡ Sleep → is_ready h ≡ false
asleep_waits h e = by (is_listening h) h.registers.port.fre (is_off h.registers.port.soft) h.power e
  where
    by : (listening fre off : Bool) (p : Power) → p ≡ Sleep → (listening && fre && off && is_awake p) ≡ false
    by true true true Sleep e = refl
    by true true false Sleep e = refl
    by true false off Sleep e = refl
    by false fre off Sleep e = refl
    by listening fre off p e = cc

begins_none : (w : DmaView) (slot : ℕ) → is_idle w ≡ true → delivers_for w slot ≡ false
begins_none Idle slot e = refl
begins_none w slot e = cc

delivers_none : (h : HbaView) (slot : ℕ) → is_idle h.dma ≡ true → may_deliver h slot ≡ false
delivers_none h slot idle = by (is_running h.registers.port) h.registers.port.fre (delivers_for h.dma slot) (begins_none h.dma slot idle)
  where
    by : (running fre delivers : Bool) → delivers ≡ false → (running && (fre && delivers)) ≡ false
    by true true d e = e
    by true false d e = refl
    by false fre d e = refl

-- the steps behind a fetch and a control FIS, in their order
abbrev last_steps : HbaView → ℕ → Option Step
last_steps h slot =
    if may_execute h slot then Some step.Execute
    else if may_recover h slot then Some step.Recover
    else queue_step h slot

sleeps : (h : HbaView) (slot : ℕ) → h.power ≡ Sleep → is_idle h.dma ≡ true → last_steps h slot ≡ None
sleeps h slot asleep idle = rw (asleep_waits h asleep, delivers_none h slot idle) refl

pub asleep_answers_none : (h : HbaView) (slot : ℕ) → h.power ≡ Sleep → is_idle h.dma ≡ true → answers (next_step h slot) ≡ false
asleep_answers_none h slot asleep idle = by (may_fetch h slot) (may_control h slot) (last_steps h slot) (sleeps h slot asleep idle)
  where
    by : (fetch control : Bool) (rest : Option Step) → rest ≡ None
        → answers (if fetch then Some step.Fetch else if control then Some step.Control else rest) ≡ false
    by true control rest e = refl
    by false true rest e = refl
    by false false rest e = ap (λ s. answers s) e
