-- The nearest slot that waits, and the next step of a slot by what all slots have in common.
use Rattle.std.proofs.Common.{◌≡◌, ℕ, ◌+◌, ◌<◌, min, Bool, true, false, not, cond, ◌&&◌, ◌||◌, nat_eq, nat_le, nat_lt, List, [], ◌∷◌, ◌++◌, length, map, get_or, set, replicate, Option, None, Some, is_some, refl, ap, sym, subst, ◌∙◌, arith}
use Rattle.std.specs.Prelude.{slice_index_or}
use Rattle.std.specs.List.{list_any, range_with_len}
use Rattle.std.proofs.lemmas.Bool.{and_parts, eqb-true, eq-eqb, ltb-true, true≢false}
use Rattle.std.proofs.lemmas.Grind.{get_or-set_at}
use Rattle.std.proofs.lemmas.List.{get_or-replicate, get_or-set_other, length-replicate}
use Rattle.std.proofs.lemmas.List.Folds.{list_any-append, list_any_at}
use Rattle.std.proofs.lemmas.List.FromFn.{get_or-range_with_len, length-range_with_len, map-range_with_len_more}
use Rattle.word_bits.specs.Places.{bits, has_place}
use Rattle.word_bits.proofs.BitsLemmas.{bits_zero}
use Rattle.word_bits.proofs.PlacesLemmas.{and_false, has_place-no_places, or_false, or_true}
use Rattle.hba_command.specs.Action.{action_of}
use Rattle.hba_command.specs.Power.{is_awake}
use Rattle.hba_command.specs.declared.action.Action.{Action}
use Rattle.hba_regs.specs.HbaState.{slot_of}
use Rattle.hba_regs.specs.PortStates.{p_idle_selects}
use Rattle.ncq_journal.proofs.FilledLemmas.{IsFilled, one_more}
use Rattle.ncq_journal.specs.Halted.{halted}
use Rattle.ncq_journal.specs.Phase.{phase}
use Rattle.ncq_journal.specs.declared.phase.Phase.{Phase}
use Rattle.ncq_journal.specs.declared.phase.Phase.TheVariants.{Accepted, Broken, Done, Free, Held, Issued, Rejected}
use Rattle.ahci_port.specs.Faults.{is_accepted, is_issued, op_refusal}
use Rattle.ahci_hba.specs.HbaView.{CommandView, Fetched, Sent, HbaView, DmaView, Idle, Fetching, Served, Pio, Block, Writing}
use Rattle.ahci_hba.specs.Outlook.{IsNearest, Reaches, comes_behind, delivering, is_within, nearer, step_in}
use Rattle.ahci_hba.specs.Queueing.{command_at, distance_of, goes_to_port, has_alone, has_queued, is_before, is_empty, is_fetched, is_idle, is_listening, is_off, is_overtaken, is_ready, is_running, is_sent, may_fetch, moves_sectors, task_in, waits, work_of_action}
use Rattle.ahci_hba.specs.Recovering.{error_log_in, error_log_of}
use Rattle.ahci_hba.specs.Resetting.{control_in, control_of}
use Rattle.ahci_hba.specs.Stepping.{delivers_for, delivery, is_answered, is_answered_at, is_taken_up, is_waiting, next_step, work_at}
use Rattle.ahci_hba.specs.Storing.{content_in}
use Rattle.ahci_hba.specs.declared.step.Step.{Step}
use Rattle.ahci_hba.specs.declared.step.Step.TheVariants as step

-- ---- the nearest slot that waits

lt_min : (n a d : ℕ) → nat_lt (min n a) d ≡ (nat_lt n d || nat_lt a d)
lt_min n a d = grind arith

-- behind the nearer of two comes what comes behind one of them
behind_nearer : (nearest : Option ℕ) (a d : ℕ) → comes_behind (Some (nearer nearest a)) d ≡ (comes_behind nearest d || nat_lt a d)
behind_nearer None a d = refl
behind_nearer (Some n) a d = lt_min n a d

map_same : (xs : List ℕ) → map (λ x. x) xs ≡ xs
map_same [] = refl
map_same (x ∷ xs) = ap (λ ys. x ∷ ys) (map_same xs)

-- one number more
any_more : (p : ℕ → Bool) (n : ℕ) → list_any p (range_with_len 0 (n + 1)) ≡ (list_any p (range_with_len 0 n) || p n)
any_more p n =
    ap (list_any p)
    (sym (map_same (range_with_len 0 (n + 1))) ∙ map-range_with_len_more (λ x. x) 0 n n (omega arith) ∙ ap (λ xs. xs ++ n ∷ []) (map_same (range_with_len 0 n)))
    ∙ list_any-append p (range_with_len 0 n) (n ∷ []) ∙ ap (λ b. list_any p (range_with_len 0 n) || b) (or_false (p n))

pub none_below : (h : HbaView) → IsNearest h 0 None
none_below h = record { some = refl; behind = λ slot. refl }

-- the next slot waits
pub nearest_more : (h : HbaView) (n : ℕ) (nearest : Option ℕ) (d : ℕ) → waits h n ≡ true → d ≡ distance_of h.registers.port n → IsNearest h n nearest
    → IsNearest h (n + 1) (Some (nearer nearest d))
nearest_more h n nearest d here far is = record {
  some = any_more (waits h) n ∙ rw here (or_true (list_any (waits h) (range_with_len 0 n)));
  behind = λ slot.
      any_more (is_before h slot) n
      ∙ ap (λ w. list_any (is_before h slot) (range_with_len 0 n) || (w && nat_lt (distance_of h.registers.port n) (distance_of h.registers.port slot))) here
      ∙ ap (λ x. list_any (is_before h slot) (range_with_len 0 n) || nat_lt x (distance_of h.registers.port slot)) (sym far)
      ∙ ap (λ b. b || nat_lt d (distance_of h.registers.port slot)) (is.behind slot)
      ∙ sym (behind_nearer nearest d (distance_of h.registers.port slot));
}

-- it doesn't
pub nearest_same : (h : HbaView) (n : ℕ) (nearest : Option ℕ) → waits h n ≡ false → IsNearest h n nearest → IsNearest h (n + 1) nearest
nearest_same h n nearest here is = record {
  some = any_more (waits h) n ∙ rw here (or_false (list_any (waits h) (range_with_len 0 n)) ∙ is.some);
  behind = λ slot.
      any_more (is_before h slot) n
      ∙ ap (λ w. list_any (is_before h slot) (range_with_len 0 n) || (w && nat_lt (distance_of h.registers.port n) (distance_of h.registers.port slot))) here
      ∙ or_false (list_any (is_before h slot) (range_with_len 0 n)) ∙ is.behind slot;
}

-- ---- how far the slot is whose command may be read

-- a command may be read if all of these hold
none_read : (l f w o a : Bool) → (f ≡ false) → (l && f && w && o && a) ≡ (w && false)
none_read l true w o a e = cc
none_read true false w o a e = sym (and_false w)
none_read false false w o a e = sym (and_false w)

none_waiting : (l f w o a : Bool) → (w ≡ false) → (l && f && w && o && a) ≡ (w && false)
none_waiting l f true o a e = cc
none_waiting l f false o a e = rw (and_false (l && f)) refl

busy : (l f w o a : Bool) → (a ≡ true) → (l && f && w && o && not a) ≡ (w && false)
busy l f w o true e = and_false (l && f && w && o) ∙ sym (and_false w)
busy l f w o false e = cc

pub nothing_is_read : (h : HbaView) → p_idle_selects h.registers.port ≡ false → Reaches h None
nothing_is_read h is slot low =
    none_read (is_listening h) (p_idle_selects h.registers.port) (waits h slot) (not (is_overtaken h slot)) (not (list_any has_alone h.slots)) is

pub no_bit_waits : (h : HbaView) (ci : ℕ) → bits ci ≡ h.registers.port.ci → ci ≡ 0 → Reaches h None
no_bit_waits h ci is zero slot low =
    none_waiting (is_listening h) (p_idle_selects h.registers.port) (waits h slot) (not (is_overtaken h slot)) (not (list_any has_alone h.slots))
    (ap (λ b. b && is_empty (command_at h slot)) (ap (λ s. has_place s slot) (sym is ∙ ap bits zero ∙ bits_zero) ∙ has_place-no_places slot))

-- a number below another one fails a test that none of them passes
none_passes : (p : ℕ → Bool) (n i : ℕ) → i < n → list_any p (range_with_len 0 n) ≡ false → p i ≡ false
none_passes p n i low none = by (p i) refl
  where
    by : (b : Bool) → p i ≡ b → b ≡ false
    by false e = refl
    by true e =
        let at : get_or (range_with_len 0 n) i 0 ≡ i = get_or-range_with_len 0 n i 0 low ∙ omega arith in
        let within : i < length (range_with_len 0 n) = let long = length-range_with_len 0 n in omega arith in
        absurd (true≢false (sym (list_any_at p (range_with_len 0 n) i 0 within (ap p at ∙ e)) ∙ none))

pub none_waits : (h : HbaView) (nearest : Option ℕ) → IsNearest h 32 nearest → nearest ≡ None → Reaches h None
none_waits h nearest is none slot low =
    none_waiting (is_listening h) (p_idle_selects h.registers.port) (waits h slot) (not (is_overtaken h slot)) (not (list_any has_alone h.slots))
    (none_passes (waits h) 32 slot low (is.some ∙ ap is_some none))

pub is_busy : (h : HbaView) → list_any has_alone h.slots ≡ true → Reaches h None
is_busy h is slot low = busy (is_listening h) (p_idle_selects h.registers.port) (waits h slot) (not (is_overtaken h slot)) (list_any has_alone h.slots) is

within : (n d : ℕ) → not (nat_lt n d) ≡ nat_le d n
within n d = grind arith

reads : (l f w o a : Bool) (n d : ℕ) → l ≡ true → f ≡ true → a ≡ false → o ≡ nat_lt n d → (l && f && w && not o && not a) ≡ (w && nat_le d n)
reads true true w o false n d il if ia io = rw io (rw (within n d) (by w (nat_le d n)))
  where
    by : (x y : Bool) → (true && true && x && y && true) ≡ (x && y)
    by true true = refl
    by true false = refl
    by false y = refl
reads false f w o a n d il if ia io = cc
reads true false w o a n d il if ia io = cc
reads true true w o true n d il if ia io = cc

pub nearest_is_read : (h : HbaView) (nearest : Option ℕ) (n : ℕ) → is_listening h ≡ true → p_idle_selects h.registers.port ≡ true → list_any has_alone h.slots ≡ false
    → IsNearest h 32 nearest → nearest ≡ Some n → Reaches h (Some n)
nearest_is_read h nearest n listening free alone is found slot low =
    reads (is_listening h) (p_idle_selects h.registers.port) (waits h slot) (is_overtaken h slot) (list_any has_alone h.slots) n (distance_of h.registers.port slot)
    listening free alone (is.behind slot ∙ ap (λ o. comes_behind o (distance_of h.registers.port slot)) found)

-- ---- the next step, by a slot's command

idle_delivers : (w : DmaView) (slot : ℕ) → is_idle w ≡ true → delivers_for w slot ≡ false
idle_delivers Idle slot e = refl
idle_delivers (Fetching s r) slot e = refl
idle_delivers (Served s t window list) slot e = cc
idle_delivers (Pio t) slot e = cc
idle_delivers (Block p t) slot e = refl
idle_delivers (Writing p e) slot i = refl

none_delivered : (r f d : Bool) → d ≡ false → cond (r && (f && d)) (Some step.Deliver) None ≡ None
none_delivered r f true e = cc
none_delivered r f false e = rw (and_false f) (rw (and_false r) refl)

no_delivery : (h : HbaView) (slot : ℕ) → is_listening h ≡ true → delivery h slot ≡ None
no_delivery h slot listening =
    none_delivered (is_running h.registers.port) h.registers.port.fre (delivers_for h.dma slot)
    (idle_delivers h.dma slot (and_parts (is_running h.registers.port) (is_idle h.dma) listening).1)

-- the next step with a command, if it is not to be read, and the next step with any
abbrev next_but_fetch : HbaView → ℕ → Option CommandView → Option Step
next_but_fetch h slot c =
    cond (is_listening h && is_some (control_in c)) (Some step.Control)
    (cond (is_ready h && is_answered_at h c) (Some step.Execute)
    (cond (is_ready h && (is_some (error_log_in c) && (halted h.port.past && not (list_any has_queued h.slots)))) (Some step.Recover)
    (cond
    (is_ready h && ((not (is_some h.device.collision) && goes_to_port h c) && not (is_some (op_refusal h.port slot (work_at c)))))
    (Some step.Send)
    (cond (is_ready h && (is_sent c && (not (halted h.port.past) && is_issued (phase h.port.past slot)))) (Some step.Accept)
    (cond (is_ready h && (is_sent c && (not (halted h.port.past) && is_accepted (phase h.port.past slot)))) (Some step.Serve) (delivery h slot))))))

abbrev next_with : HbaView → ℕ → Option CommandView → Option Step
next_with h slot c =
    cond
    (is_listening h && p_idle_selects h.registers.port && (has_place h.registers.port.ci slot && is_empty c) && not (is_overtaken h slot) && not (list_any has_alone h.slots))
    (Some step.Fetch) (next_but_fetch h slot c)

next_is : (h : HbaView) (slot : ℕ) → next_step h slot ≡ next_with h slot (command_at h slot)
next_is h slot = refl

of_none : {X : Type 0} (f l r x k z a b : Bool) (F C E R S A V : X) (d : Option X) → d ≡ None
    → cond f (Some F) (cond (l && false) (Some C) (cond (r && false) (Some E) (cond (r && (false && x)) (Some R) (cond (r && ((k && false) && z)) (Some S)
    (cond (r && (false && a)) (Some A) (cond (r && (false && b)) (Some V) d))))))
    ≡ cond f (Some F) None
of_none f l r x k z a b F C E R S A V d none = rw none (rw (and_false k) (rw (and_false l) (rw (and_false r) refl)))

pub next_of_none : (h : HbaView) (slot : ℕ) → is_listening h ≡ true → command_at h slot ≡ None → next_step h slot ≡ cond (may_fetch h slot) (Some step.Fetch) None
next_of_none h slot listening empty = by (command_at h slot) (may_fetch h slot) empty
  where
    by : (c : Option CommandView) (f : Bool) → c ≡ None → cond f (Some step.Fetch) (next_but_fetch h slot c) ≡ cond f (Some step.Fetch) None
    by (Some c) f e = cc
    by None f e =
        of_none f (is_listening h) (is_ready h) (halted h.port.past && not (list_any has_queued h.slots)) (not (is_some h.device.collision))
        (not (is_some (op_refusal h.port slot (work_at None)))) (not (halted h.port.past) && is_issued (phase h.port.past slot))
        (not (halted h.port.past) && is_accepted (phase h.port.past slot)) step.Fetch step.Control step.Execute step.Recover step.Send step.Accept step.Serve (delivery h slot)
        (no_delivery h slot listening)

-- a command that is read
abbrev pub next_of : HbaView → ℕ → Action → List ℕ → Option Step
next_of h slot a bytes =
    cond (is_some (control_of a)) (Some step.Control)
    (cond (is_ready h && is_answered h a) (Some step.Execute)
    (cond (is_ready h && (is_some (error_log_of a) && (halted h.port.past && not (list_any has_queued h.slots)))) (Some step.Recover)
    (cond
    (is_ready h && ((not (is_some h.device.collision) && moves_sectors h a) && not (is_some (op_refusal h.port slot (work_of_action a bytes)))))
    (Some step.Send) None)))

of_fetched : {X : Type 0} (l f p u v r c e k s a b : Bool) (F C E R S A V : X) (d : Option X) → l ≡ true → d ≡ None
    → cond (l && f && (p && false) && u && v) (Some F) (cond (l && c) (Some C) (cond (r && e) (Some E) (cond (r && k) (Some R) (cond (r && s) (Some S)
    (cond (r && (false && a)) (Some A) (cond (r && (false && b)) (Some V) d))))))
    ≡ cond c (Some C) (cond (r && e) (Some E) (cond (r && k) (Some R) (cond (r && s) (Some S) None)))
of_fetched l f p u v r c e k s a b F C E R S A V d listening none = rw listening (rw none (rw (and_false p) (rw (and_false f) (rw (and_false r) refl))))

pub next_of_fetched : (h : HbaView) (slot : ℕ) (a : Action) (bytes : List ℕ) → is_listening h ≡ true → is_fetched (command_at h slot) ≡ true
    → a ≡ action_of (task_in (command_at h slot)) → bytes ≡ content_in (command_at h slot) → next_step h slot ≡ next_of h slot a bytes
next_of_fetched h slot a bytes listening = by (command_at h slot)
  where
    by : (c : Option CommandView) → is_fetched c ≡ true → a ≡ action_of (task_in c) → bytes ≡ content_in c → next_with h slot c ≡ next_of h slot a bytes
    by None e asks content = cc
    by (Some (Sent t list)) e asks content = cc
    by (Some (Fetched t list b)) e asks content =
        rw asks (rw content (of_fetched (is_listening h) (p_idle_selects h.registers.port) (has_place h.registers.port.ci slot) (not (is_overtaken h slot))
        (not (list_any has_alone h.slots)) (is_ready h) (is_some (control_of (action_of t))) (is_answered h (action_of t))
        (is_some (error_log_of (action_of t)) && (halted h.port.past && not (list_any has_queued h.slots)))
        ((not (is_some h.device.collision) && moves_sectors h (action_of t)) && not (is_some (op_refusal h.port slot (work_of_action (action_of t) b))))
        (not (halted h.port.past) && is_issued (phase h.port.past slot)) (not (halted h.port.past) && is_accepted (phase h.port.past slot)) step.Fetch step.Control
        step.Execute step.Recover step.Send step.Accept step.Serve (delivery h slot) listening (no_delivery h slot listening)))

-- one that is with the port
of_sent : {X : Type 0} (l f p u v r x k z a b : Bool) (F C E R S A V : X) (d : Option X) → d ≡ None
    → cond (l && f && (p && false) && u && v) (Some F) (cond (l && false) (Some C) (cond (r && false) (Some E) (cond (r && (false && x)) (Some R)
    (cond (r && ((k && false) && z)) (Some S) (cond (r && a) (Some A) (cond (r && b) (Some V) d))))))
    ≡ cond (r && a) (Some A) (cond (r && b) (Some V) None)
of_sent l f p u v r x k z a b F C E R S A V d none = rw none (rw (and_false p) (rw (and_false k) (rw (and_false (l && f)) (rw (and_false l) (rw (and_false r) refl)))))

pub next_of_sent : (h : HbaView) (slot : ℕ) → is_listening h ≡ true → is_sent (command_at h slot) ≡ true
    → next_step h slot
    ≡ cond (is_ready h && (not (halted h.port.past) && is_issued (phase h.port.past slot))) (Some step.Accept)
    (cond (is_ready h && (not (halted h.port.past) && is_accepted (phase h.port.past slot))) (Some step.Serve) None)
next_of_sent h slot listening = by (command_at h slot)
  where
    by : (c : Option CommandView) → is_sent c ≡ true
        → next_with h slot c
        ≡ cond (is_ready h && (not (halted h.port.past) && is_issued (phase h.port.past slot))) (Some step.Accept)
        (cond (is_ready h && (not (halted h.port.past) && is_accepted (phase h.port.past slot))) (Some step.Serve) None)
    by None e = cc
    by (Some (Fetched t list bytes)) e = cc
    by (Some (Sent t list)) e =
        of_sent (is_listening h) (p_idle_selects h.registers.port) (has_place h.registers.port.ci slot) (not (is_overtaken h slot)) (not (list_any has_alone h.slots)) (is_ready h)
        (halted h.port.past && not (list_any has_queued h.slots)) (not (is_some h.device.collision)) (not (is_some (op_refusal h.port slot (work_at (Some (Sent t list))))))
        (not (halted h.port.past) && is_issued (phase h.port.past slot)) (not (halted h.port.past) && is_accepted (phase h.port.past slot)) step.Fetch step.Control
        step.Execute step.Recover step.Send step.Accept step.Serve (delivery h slot) (no_delivery h slot listening)

-- a slot without a command, by a test of its number
pub empty_is : (h : HbaView) (reach : Option ℕ) (slot n : ℕ) (b : Bool) → is_listening h ≡ true → Reaches h reach → command_at h slot ≡ None → n ≡ slot → n < 32
    → b ≡ (waits h n && is_within reach (distance_of h.registers.port n)) → cond b (Some step.Fetch) None ≡ next_step h slot
empty_is h reach slot n b listening reaches empty same low is =
    ap (λ x. cond x (Some step.Fetch) None) (is ∙ sym (reaches n low) ∙ ap (may_fetch h) same) ∙ sym (next_of_none h slot listening empty)

-- a command that is read, by the tests in their order
pub fetched_is : (h : HbaView) (slot : ℕ) (a : Action) (bytes : List ℕ) → is_listening h ≡ true → is_fetched (command_at h slot) ≡ true
    → a ≡ action_of (task_in (command_at h slot)) → bytes ≡ content_in (command_at h slot) → (ctl r e k s : Bool) → ctl ≡ is_some (control_of a) → r ≡ is_ready h
    → e ≡ is_answered h a → k ≡ (is_some (error_log_of a) && (halted h.port.past && not (list_any has_queued h.slots)))
    → s ≡ (not (is_some h.device.collision) && moves_sectors h a && not (is_some (op_refusal h.port slot (work_of_action a bytes))))
    → cond ctl (Some step.Control) (cond (r && e) (Some step.Execute) (cond (r && k) (Some step.Recover) (cond (r && s) (Some step.Send) None))) ≡ next_step h slot
fetched_is h slot a bytes listening fetched asks content ctl r e k s ictl ir ie ik is =
    rw ictl (rw ir (rw ie (rw ik (rw is (sym (next_of_fetched h slot a bytes listening fetched asks content))))))

-- one that is with the port, by its phase
pub sent_is : (h : HbaView) (slot : ℕ) → is_listening h ≡ true → is_sent (command_at h slot) ≡ true → (r f : Bool) (p : Phase) → r ≡ is_ready h → f ≡ halted h.port.past
    → p ≡ phase h.port.past slot → cond (r && not f) (step_in p) None ≡ next_step h slot
sent_is h slot listening sent r f p ir if ip = by r f p ∙ rw ir (rw if (rw ip (sym (next_of_sent h slot listening sent))))
  where
    by : (r f : Bool) (p : Phase) → cond (r && not f) (step_in p) None
        ≡ cond (r && (not f && is_issued p)) (Some step.Accept) (cond (r && (not f && is_accepted p)) (Some step.Serve) None)
    by false f p = refl
    by true true p = refl
    by true false Free = refl
    by true false Issued = refl
    by true false Accepted = refl
    by true false Rejected = refl
    by true false Broken = refl
    by true false Held = refl
    by true false Done = refl

-- ---- while the controller doesn't listen

unheard : {X : Type 0} (l f w u v fre off awake c x k s a b : Bool) (F C E R S A V : X) (d : Option X) → l ≡ false
    → cond (l && f && w && u && v) (Some F) (cond (l && c) (Some C) (cond (l && fre && off && awake && x) (Some E) (cond (l && fre && off && awake && k) (Some R)
    (cond (l && fre && off && awake && s) (Some S) (cond (l && fre && off && awake && a) (Some A) (cond (l && fre && off && awake && b) (Some V) d))))))
    ≡ d
unheard l f w u v fre off awake c x k s a b F C E R S A V d e = rw e refl

next_unheard : (h : HbaView) (slot : ℕ) → is_listening h ≡ false → next_step h slot ≡ delivery h slot
next_unheard h slot e =
    unheard (is_listening h) (p_idle_selects h.registers.port) (waits h slot) (not (is_overtaken h slot)) (not (list_any has_alone h.slots)) h.registers.port.fre
    (is_off h.registers.port.soft) (is_awake h.power) (is_some (control_in (command_at h slot))) (is_answered_at h (command_at h slot))
    (is_some (error_log_in (command_at h slot)) && (halted h.port.past && not (list_any has_queued h.slots)))
    ((not (is_some h.device.collision) && goes_to_port h (command_at h slot)) && not (is_some (op_refusal h.port slot (work_at (command_at h slot)))))
    (is_waiting h slot) (is_taken_up h slot) step.Fetch step.Control step.Execute step.Recover step.Send step.Accept step.Serve (delivery h slot) e

abbrev is_slot : Option ℕ → ℕ → Bool
is_slot None slot = false
is_slot (Some s) slot = nat_eq s slot

-- of a slot that the port has done nothing for there is no step
pub no_step : (h : HbaView) (slot : ℕ) → is_listening h ≡ false → delivers_for h.dma slot ≡ false → next_step h slot ≡ None
no_step h slot e none = next_unheard h slot e ∙ none_delivered (is_running h.registers.port) h.registers.port.fre (delivers_for h.dma slot) none

delivers : (w : DmaView) (slot : ℕ) (o : Option ℕ) → delivering w ≡ o → delivers_for w slot ≡ is_slot o slot
delivers Idle slot o e = sym (ap (λ x. is_slot x slot) (sym e))
delivers (Fetching s r) slot o e = sym (ap (λ x. is_slot x slot) (sym e))
delivers (Served s t window list) slot o e = sym (ap (λ x. is_slot x slot) (sym e))
delivers (Pio t) slot o e = sym (ap (λ x. is_slot x slot) (sym e))
delivers (Block p t) slot o e = sym (ap (λ x. is_slot x slot) (sym e))
delivers (Writing p x) slot o e = sym (ap (λ x. is_slot x slot) (sym e))

pub no_steps : (h : HbaView) → is_listening h ≡ false → delivering h.dma ≡ None → (slot : ℕ) → slot < 32 → slice_index_or (replicate 32 None) slot None ≡ next_step h slot
no_steps h e none slot low = get_or-replicate 32 slot None None low ∙ sym (no_step h slot e (delivers h.dma slot None none))

abbrev no_step_at_all : List (Option Step)
no_step_at_all = replicate 32 None

long : length no_step_at_all ≡ 32
long = length-replicate {A = Option Step} 32 None

-- it is the step of one slot alone
pub one_step : (h : HbaView) (s i : ℕ) (x : Option Step) → is_listening h ≡ false → delivering h.dma ≡ Some s → i ≡ s → i < 32 → x ≡ delivery h s
    → (slot : ℕ) → slot < 32 → slice_index_or (set no_step_at_all i x) slot None ≡ next_step h slot
one_step h s i x e found at inside is slot low = by (nat_eq s slot) refl
  where
    by : (b : Bool) → nat_eq s slot ≡ b → slice_index_or (set no_step_at_all i x) slot None ≡ next_step h slot
    by true here =
        let same : s ≡ slot = eqb-true s slot here in
        get_or-set_at no_step_at_all i slot x None (sym same ∙ sym at) (subst (λ n. i < n) (sym long) inside) ∙ is ∙ ap (delivery h) same ∙ sym (next_unheard h slot e)
    by false other =
        get_or-set_other no_step_at_all i slot x None (λ same. absurd (true≢false (sym (eq-eqb s slot (sym at ∙ sym same)) ∙ other)))
        ∙ get_or-replicate 32 slot None None low ∙ sym (no_step h slot e (delivers h.dma slot (Some s) found ∙ other))

-- the slot of a number
pub slot_is : (number slot : ℕ) → slot_of number ≡ Some slot → (slot < 32) × (slot ≡ number)
slot_is number slot e = by (nat_lt number 32) refl e
  where
    by : (b : Bool) → nat_lt number 32 ≡ b → cond b (Some number) None ≡ Some slot → (slot < 32) × (slot ≡ number)
    by true small is = let same : number ≡ slot = cc in (subst (λ n. n < 32) same (ltb-true number 32 small), sym same)
    by false small is = cc

-- the steps of one slot more
pub steps_more : (h : HbaView) (steps : List (Option Step)) (n i slot : ℕ) (x : Option Step) → slot_of n ≡ Some slot → i ≡ slot → n < 32 → IsFilled None (next_step h) steps n
    → x ≡ next_step h slot → IsFilled None (next_step h) (set steps i x) (n + 1)
steps_more h steps n i slot x of at low so_far is =
    let same : slot ≡ n = (slot_is n slot of).1 in one_more None (next_step h) steps n i x (at ∙ same) low so_far (is ∙ ap (next_step h) same)
