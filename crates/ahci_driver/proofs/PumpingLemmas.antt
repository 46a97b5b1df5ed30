-- The words that a pump looks at, and the journal that they come from.
use Rattle.std.proofs.Common.{◌≡◌, ◌≢◌, ℕ, ◌^◌, ◌<◌, Bool, true, false, ◌&&◌, cond, List, [], ◌∷◌, ap, sym, refl, ◌∙◌, None, Some, arith, inl, inr, Option}
use Rattle.std.specs.Prelude.{IfOk, Result, Ok, Err}
use Rattle.std.proofs.lemmas.Bool.{cases_lt, true≢false}
use Rattle.ncq_journal.specs.declared.phase.Phase.{Phase}
use Rattle.ncq_journal.specs.declared.phase.Phase.TheVariants.{Issued, Accepted}
use Rattle.ncq_journal.specs.Entry.{Entry}
use Rattle.ncq_journal.specs.Halted.{halted, busy}
use Rattle.ncq_journal.specs.Phase.{phase, is_busy}
use Rattle.ncq_journal.proofs.TagLemmas.{the_tag, no_tag, lacks}
use Rattle.word_bits.specs.Places.{places, bits, has_place, no_places, IsLowest}
use Rattle.word_bits.proofs.PlacesLemmas.{length-places, has_place-places, has_place_past, has_place-no_places, places_none}
use Rattle.word_bits.proofs.BitsLemmas.{bits_zero, same_word}
use Rattle.ahci_port.specs.declared.fault.ReissueFault.TheVariants as reissue
use Rattle.ahci_port.specs.declared.fault.StepFault.TheVariants as step_fault
use Rattle.ahci_port.specs.declared.fault.StepFault.{StepFault}
use Rattle.ahci_port.specs.declared.step.DeviceStep.{DeviceStep}
use Rattle.ahci_port.specs.declared.step.Stepped.{Stepped}
use Rattle.ahci_port.specs.declared.step.DeviceStep.TheVariants.{Accept, Serve, Fail}
use Rattle.ahci_port.specs.Faults.{Answers, is_issued, is_accepted, is_held, reissue_refusal, step_refusal}
use Rattle.ahci_port.specs.Looking.{issued_tags, accepted_tags, held_tags}
use Rattle.ahci_port.specs.PortView.{PortView}
use Rattle.ahci_port.specs.Steps.{IsStepped}
use Rattle.ahci_driver.specs.Choosing.{IsLowestStep, IsOne}
use Rattle.ahci_driver.specs.Pumping.{HasAsked, HasGotOn, HasPumped, IsPumped, LeadsTo}
use Rattle.ahci_driver.specs.declared.fault.PumpFault.{PumpFault}
use Rattle.ahci_driver.specs.declared.pumped.Pumped.{Pumped}

-- a place of a set has the set's property
pub in_places : (p : ℕ → Bool) (t : ℕ) → has_place (places p) t ≡ true → p t ≡ true
in_places p t h =
    elim (cases_lt t 32) [
      | inl low ↦ sym (has_place-places p t low) ∙ h
      | inr high ↦ absurd (true≢false (sym h ∙ has_place_past (places p) t (let l = length-places p in omega arith)))
    ]

-- a held tag can be issued again
pub held_again : (port : PortView) (tag : ℕ) → halted port.past ≡ false → IsLowest (held_tags port.past) tag → reissue_refusal port tag ≡ None
held_again port tag running low =
    ap (λ b. cond b (Some reissue.Halted) (cond (is_held (phase port.past tag)) None (Some reissue.NotHeld))) running
    ∙ ap (λ b. cond b None (Some reissue.NotHeld)) (in_places (λ t. is_held (phase port.past t)) tag low.here)

idle_phase : (p : Phase) → is_issued p ≡ false → is_accepted p ≡ false → is_busy p ≡ false
idle_phase Issued i a = absurd (true≢false i)
idle_phase Accepted i a = absurd (true≢false a)
idle_phase _ i a = refl

none_of : (p : ℕ → Bool) (t : ℕ) → t < 32 → no_places ≡ places p → p t ≡ false
none_of p t low e = sym (has_place-places p t low) ∙ ap (λ s. has_place s t) (sym e) ∙ has_place-no_places t

-- where neither set has a tag, none is busy
pub idle_sets : (past : List Entry) → no_places ≡ issued_tags past → no_places ≡ accepted_tags past → busy past ≡ false
idle_sets past i a =
    no_tag (λ t. is_busy (phase past t)) (λ t low. idle_phase (phase past t) (none_of (λ u. is_issued (phase past u)) t low i) (none_of (λ u. is_accepted (phase past u)) t low a))

-- where both words are 0, no tag is busy
pub idle_words : (past : List Entry) (issued accepted : ℕ) → bits issued ≡ issued_tags past → bits accepted ≡ accepted_tags past → issued ≡ 0 → accepted ≡ 0 → busy past ≡ false
idle_words past issued accepted i a zi za =
    idle_sets past (sym bits_zero ∙ ap bits (sym zi) ∙ i) (sym bits_zero ∙ ap bits (sym za) ∙ a)

busy_issued : (past : List Entry) (t : ℕ) → t < 32 → is_busy (phase past t) ≡ true → is_accepted (phase past t) ≡ false → issued_tags past ≢ no_places
busy_issued past t low b a none = absurd (true≢false (sym b ∙ idle_phase (phase past t) (none_of (λ u. is_issued (phase past u)) t low (sym none)) a))

-- a busy tag is in one of the sets
pub busy_sets : (past : List Entry) → busy past ≡ true → accepted_tags past ≡ no_places → issued_tags past ≢ no_places
busy_sets past b none =
    let t = the_tag (λ u. is_busy (phase past u)) b in
    busy_issued past t.0 t.1 t.2 (none_of (λ u. is_accepted (phase past u)) t.0 t.1 (sym none))

-- one word isn't 0: some tag is busy
pub busy_words : (past : List Entry) (issued accepted : ℕ) → bits issued ≡ issued_tags past → bits accepted ≡ accepted_tags past
    → issued < 2 ^ 32 → accepted < 2 ^ 32 → ((issued ≡ 0) × (accepted ≡ 0) → ⊥) → busy past ≡ true
busy_words past issued accepted i a si sa some = by (busy past) refl
  where
    zero_word : (w : ℕ) (p : ℕ → Bool) → bits w ≡ places p → w < 2 ^ 32 → ((t : ℕ) → t < 32 → p t ≡ false) → w ≡ 0
    zero_word w p is small none = same_word w 0 small (omega arith) (is ∙ places_none p none ∙ sym bits_zero)

    by : (b : Bool) → busy past ≡ b → busy past ≡ true
    by true e = e
    by false e = absurd (some (
      zero_word issued (λ t. is_issued (phase past t)) i si (λ t low. (calm (phase past t) (lacks_busy t low e)).0),
      zero_word accepted (λ t. is_accepted (phase past t)) a sa (λ t low. (calm (phase past t) (lacks_busy t low e)).1),
    ))
      where
        calm : (p : Phase) → is_busy p ≡ false → (is_issued p ≡ false) × (is_accepted p ≡ false)
        calm Issued h = absurd (true≢false h)
        calm Accepted h = absurd (true≢false h)
        calm _ h = (refl, refl)

        lacks_busy : (t : ℕ) → t < 32 → busy past ≡ false → is_busy (phase past t) ≡ false
        lacks_busy t low calm = lacks (λ u. is_busy (phase past u)) t low calm

accept_may : (port : PortView) (tag : ℕ) → halted port.past ≡ false → is_issued (phase port.past tag) ≡ true → step_refusal port (Accept tag) ≡ None
accept_may port tag running e =
    ap (λ b. cond b (Some step_fault.Halted) (cond (is_issued (phase port.past tag)) None (Some step_fault.NotIssued))) running
    ∙ ap (λ b. cond b None (Some step_fault.NotIssued)) e

-- one tag alone
serve_may : (port : PortView) (tag : ℕ) → halted port.past ≡ false → is_accepted (phase port.past tag) ≡ true → step_refusal port (Serve (record { items = tag ∷ [] })) ≡ None
serve_may port tag running e =
    ap (λ b. cond b (Some step_fault.Halted) (cond (is_accepted (phase port.past tag) && true) None (Some step_fault.NotAccepted))) running
    ∙ ap (λ b. cond (b && true) None (Some step_fault.NotAccepted)) e

-- nothing refuses the step of `Low` if some tag is busy
pub lowest_is_lawful : (port : PortView) (issued accepted : ℕ) (step : DeviceStep) → IsLowestStep issued accepted step → halted port.past ≡ false
    → busy port.past ≡ true → bits issued ≡ issued_tags port.past → bits accepted ≡ accepted_tags port.past → step_refusal port step ≡ None
lowest_is_lawful port issued accepted (Serve tags) h running b i a = of_one tags.items h
  where
    of_one : (items : List ℕ) → IsOne (IsLowest (bits accepted)) items → step_refusal port (Serve (record { items = items })) ≡ None
    of_one [] h = absurd h
    of_one (tag ∷ []) h = serve_may port tag running (in_places (λ t. is_accepted (phase port.past t)) tag (ap (λ s. has_place s tag) (sym a) ∙ h.here))
    of_one (tag ∷ other ∷ tags) h = absurd h
lowest_is_lawful port issued accepted (Accept tag) h running b i a =
    let low = h.1 (λ none. busy_sets port.past b (sym a ∙ h.0) (sym i ∙ none)) in
    accept_may port tag running (in_places (λ t. is_issued (phase port.past t)) tag (ap (λ s. has_place s tag) (sym i) ∙ low.here))
lowest_is_lawful port issued accepted (Fail tag error at) h running b i a = absurd h

-- a chooser's answer that was done
pub leads_itself : (old new : PortView) (issued accepted : ℕ) (answer : DeviceStep) (done : Stepped) → Answers (Ok done) (step_refusal old answer)
    → IsStepped answer old new done → LeadsTo old new issued accepted answer done (step_refusal old answer)
leads_itself old new issued accepted answer done h stepped = by (step_refusal old answer) h
  where
    by : (o : Option StepFault) → Answers (Ok done) o → LeadsTo old new issued accepted answer done o
    by None h = stepped
    by (Some fault) h = absurd (cc)

-- a chooser's answer that was refused
pub leads_to_low : (old new : PortView) (issued accepted : ℕ) (answer low : DeviceStep) (done : Stepped) (fault : StepFault) → Answers {T = Stepped} (Err fault) (step_refusal old answer)
    → IsLowestStep issued accepted low → IsStepped low old new done → LeadsTo old new issued accepted answer done (step_refusal old answer)
leads_to_low old new issued accepted answer low done fault h lowest stepped = by (step_refusal old answer) h
  where
    by : (o : Option StepFault) → Answers {T = Stepped} (Err fault) o → LeadsTo old new issued accepted answer done o
    by None h = absurd (cc)
    by (Some f) h = (low, lowest, stepped)

-- a pump of this port is one of some port
pub pumped_some : {C : Type 0} (gives : C → ℕ → ℕ → DeviceStep → C → Type 0) (before after : C) (old new : PortView) (x : Result Pumped PumpFault)
    → IfOk x (λ p. IsPumped old new p) → IfOk x (λ p. HasAsked gives before after old new p) → IfOk x (HasPumped gives before after)
pumped_some gives before after old new (Ok p) pumped asked = record { old = old; new = new; pumped = pumped; asked = asked }
pumped_some gives before after old new (Err fault) pumped asked = tt

-- a pump that is known is some pump
pub got_on : {C : Type 0} (gives : C → ℕ → ℕ → DeviceStep → C → Type 0) (before after : C) (p : Pumped) → HasPumped gives before after p → HasGotOn gives before after
got_on gives before after p pumped = (p, pumped)
