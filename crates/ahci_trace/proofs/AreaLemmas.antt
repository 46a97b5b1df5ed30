-- The received FIS area changes at the places of the FISes that are reported.
use Rattle.std.proofs.Common.{◌≡◌, ◌⊎◌, ◌∙◌, ℕ, ◌+◌, ◌-◌, ◌<◌, ◌≤◌, Bool, true, false, cond, List, [], ◌∷◌, ◌++◌, Option, None, Some, length, take, drop, get_or, refl, inl, inr, ap, subst, length-append, arith}
use Rattle.std.specs.Prelude.{◌==◌, IsSomeAnd, option_map}
use Rattle.std.specs.List.{fold}
use Rattle.std.proofs.Math.ListN.{get_or-append}
use Rattle.std.proofs.lemmas.List.{get_or-append_right, get_or-drop, get_or-take, length-drop, length-take-le}
use Rattle.std.proofs.lemmas.Bool.{cases_lt}
use Rattle.std.proofs.lemmas.Bool.Decides.{nat_tests}
use Rattle.ahci_port.specs.Faults.{are_accepted, is_accepted, is_bad_list, is_issued, is_of_request}
use Rattle.ahci_port.specs.PortView.{PortView, put_at, setup_place, pio_place, register_place, bits_place, window_at}
use Rattle.ahci_port.specs.Registers.{word_of_tags}
use Rattle.ahci_port.specs.Steps.{IsAccepted, IsFailed, IsFlushed, IsIdentified, IsRecovered, IsRejected, IsServed, IsTaken, TakenBy, first_lacking, passes_end, with_setup}
use Rattle.ahci_port.specs.declared.fault.StepFault.TheVariants as step_fault
use Rattle.ahci_port.specs.declared.step.Stepped.{Stepped}
use Rattle.ahci_replay.specs.Commands.{AnswersWindow, RefusedOr}
use Rattle.ahci_replay.specs.Commands as answers
use Rattle.ahci_port.specs.Refusals.{of_step}
use Rattle.ahci_replay.specs.Refusals.{refusal_on}
use Rattle.ahci_script.specs.Said.{Said}
use Rattle.ahci_script.specs.declared.line.ScriptCommand.TheVariants as command
use Rattle.port_refusal.specs.declared.refusal.Refusal.{Refusal}
use Rattle.ahci_table.specs.Command.{queued_of}
use Rattle.ahci_table.specs.Window.{WindowState}
use Rattle.ncq_core.specs.DiskFis.{accepted_bytes, completed_bytes, failed_bytes, flushed_bytes, not_found_bytes, pio_bytes, setup_bytes}
use Rattle.ncq_journal.specs.Entry.{Entry, Accept, Complete, Fail, Recover, Unqueued}
use Rattle.ncq_journal.specs.Halted.{halted}
use Rattle.ncq_journal.specs.Phase.{failed, phase}
use Rattle.ncq_journal.specs.Request.{Request, request}
use Rattle.ncq_journal.specs.Work.{Work}
use Rattle.ncq_journal.specs.declared.phase.Phase.{Phase}
use Rattle.ncq_journal.specs.declared.phase.Phase.TheVariants as phases
use Rattle.ncq_journal.specs.declared.plain.Plain.TheVariants as plain
use Rattle.ahci_trace.proofs.NewestLemmas.{last_completed, told_by, unrefused_serve}
use Rattle.ahci_trace.specs.Area.{IsOfTold, TellsReceived}
use Rattle.ncq_journal.specs.EventKind.{kind_of}
use Rattle.ahci_trace.specs.Trace.{told_between}
use Rattle.ahci_trace.specs.Received.{failed_in, received_by}

-- ---- the area

abbrev Same : List ℕ → List ℕ → ℕ → Type 0
Same new old i = get_or new i 0 ≡ get_or old i 0

-- a FIS is put elsewhere
put_outside : (place len i : ℕ) (fis area : List ℕ) → length fis ≡ len → place + len ≤ length area → ¬ ((place ≤ i) × (i < place + len)) → Same (put_at place fis area) area i
put_outside place len i fis area size room outside = go (cases_lt i place)
  where
    front : length (take place area) ≡ place
    front = length-take-le place area (omega (arith, room))

    both : length (take place area ++ fis) ≡ place + length fis
    both = length-append (take place area) fis ∙ ap (λ n. n + length fis) front

    go : (i < place) ⊎ (place ≤ i) → Same (put_at place fis area) area i
    go (inl low) =
        get_or-append (take place area ++ fis) (drop (place + length fis) area) 0 i (omega (arith, both, low))
        ∙ get_or-append (take place area) fis 0 i (omega (arith, front, low)) ∙ get_or-take place area i 0 low
    go (inr high) =
        let after : place + length fis ≤ i = elim (cases_lt i (place + length fis)) [ inl below ↦ absurd (outside (high, omega (arith, below, size))) | inr above ↦ above ] in
        get_or-append_right (take place area ++ fis) (drop (place + length fis) area) (place + length fis) i 0 both after
        ∙ get_or-drop (place + length fis) area (i - (place + length fis)) 0 ∙ ap (λ k. get_or area k 0) (let e : place + length fis + (i - (place + length fis)) ≡ i = omega (arith, after) in e)

-- and the area keeps its size
put_size : (place : ℕ) (fis area : List ℕ) → place + length fis ≤ length area → length (put_at place fis area) ≡ length area
put_size place fis area room =
    let front : length (take place area) ≡ place = length-take-le place area (omega (arith, room)) in
    let both : length (take place area ++ fis) ≡ place + length fis = length-append (take place area) fis ∙ ap (λ n. n + length fis) front in
    let all = length-append (take place area ++ fis) (drop (place + length fis) area) in
    let rest = length-drop (place + length fis) area in
    omega (arith, both, all, rest, room)

-- the area after the DMA Setup FISes of some tags
abbrev with_setups : PortView → List ℕ → List ℕ → List ℕ
with_setups old area tags = fold (λ a tag. with_setup (window_at old tag) a) area tags

one_setup : (w : Option WindowState) (area : List ℕ) (i : ℕ) → length area ≡ 256 → ¬ ((setup_place ≤ i) × (i < setup_place + 28))
    → (length (with_setup w area) ≡ 256) × Same (with_setup w area) area i
one_setup None area i size outside = (size, refl)
one_setup (Some w) area i size outside =
    let room : setup_place + length (setup_bytes (queued_of w)) ≤ length area = omega (arith, size) in
    (put_size setup_place (setup_bytes (queued_of w)) area room ∙ size, put_outside setup_place 28 i (setup_bytes (queued_of w)) area refl room outside)

all_setups : (old : PortView) (tags area : List ℕ) (i : ℕ) → length area ≡ 256 → ¬ ((setup_place ≤ i) × (i < setup_place + 28))
    → (length (with_setups old area tags) ≡ 256) × Same (with_setups old area tags) area i
all_setups old [] area i size outside = (size, refl)
all_setups old (tag ∷ tags) area i size outside =
    let one = one_setup (window_at old tag) area i size outside in
    let more = all_setups old tags (with_setup (window_at old tag) area) i one.0 outside in
    (more.0, more.1 ∙ one.1)

-- ---- phases and refusals

same_tag : (tag : ℕ) (x y : Phase) → cond (tag == tag) x y ≡ x
same_tag tag x y = ap (λ b. cond b x y) (let e : (tag == tag) ≡ true = grind (arith, nat_tests) in e)

-- how a command that is issued fails, and one that is accepted
fails : (p : Phase) → (is_issued p ≡ true → failed p ≡ phases.Rejected) × (is_accepted p ≡ true → failed p ≡ phases.Broken)
fails phases.Issued = (λ is. refl, λ is. cc)
fails phases.Accepted = (λ is. cc, λ is. refl)
fails phases.Broken = (λ is. cc, λ is. refl)
fails _ = (λ is. cc, λ is. cc)

-- a step that is not refused: its command is issued, its command is accepted, its list is good
unrefused_accept : (h b : Bool) → option_map of_step (cond h (Some step_fault.Halted) (cond b None (Some step_fault.NotIssued))) ≡ None → b ≡ true
unrefused_accept true b none = cc
unrefused_accept false true none = refl
unrefused_accept false false none = cc

unrefused_fail : (h b q : Bool)
    → option_map of_step (cond h (Some step_fault.Halted) (cond b (cond q None (Some step_fault.OutsideCommand)) (Some step_fault.NotAccepted))) ≡ None → b ≡ true
unrefused_fail true b q none = cc
unrefused_fail false true q none = refl
unrefused_fail false false q none = cc

-- ---- one command

module _ (old new : PortView) (i : ℕ) (size : length old.area ≡ 256) (outside : ¬ (IsOfTold (told_between (Some old) (Some new)).received i)) where
  abbrev Kept : Type 0
  Kept = Same new.area old.area i

  -- no FIS that this entry reports has the byte
  untold : (entry : Entry) (more : List Entry) → new.first ≡ old.first → new.past ≡ entry ∷ more → length old.past ≤ length more
      → ¬ (IsOfTold (received_by (Some (kind_of entry)) new) i)
  untold entry more first past grown = subst (λ n. ¬ (IsOfTold (received_by n new) i)) (told_by old new entry more first past grown) outside

  same_area : new.area ≡ old.area → Kept
  same_area is = ap (λ a. get_or a i 0) is

  put : (place len : ℕ) (fis : List ℕ) → new.area ≡ put_at place fis old.area → length fis ≡ len → place + len ≤ 256 → ¬ ((place ≤ i) × (i < place + len)) → Kept
  put place len fis is long room elsewhere =
      ap (λ a. get_or a i 0) is ∙ put_outside place len i fis old.area long (omega (arith, size, room)) elsewhere

  accepted : {tag : ℕ} {answer : Stepped} → IsAccepted tag old new answer → Kept
  accepted {tag} is =
      let no = untold (Accept tag) old.past is.appended.first_same is.appended.past_is (omega arith) in
      put register_place 20 accepted_bytes is.area_is refl (omega arith) (λ h. no (inr (inr (inl h))))

  -- a command that was issued is refused
  rejected : {tag : ℕ} {w : Work} {answer : Stepped} → is_issued (phase old.past tag) ≡ true → IsRejected tag w old new answer → Kept
  rejected {tag} {w} issued is =
      let entry = Fail tag 0x10 (first_lacking old w) in
      let no = untold entry old.past is.appended.first_same is.appended.past_is (omega arith) in
      let now : phase new.past tag ≡ phases.Rejected = ap (λ p. phase p tag) is.appended.past_is ∙ same_tag tag (failed (phase old.past tag)) (phase old.past tag) ∙ (fails (phase old.past tag)).0 issued in
      let no_register = subst (λ p. ¬ (IsOfTold (failed_in p new.area) i)) now no in
      put register_place 20 (not_found_bytes (first_lacking old w)) is.area_is refl (omega arith) (λ h. no_register (inr (inr (inl h))))

  -- a command that was accepted fails
  broken : {tag error lba : ℕ} {answer : Stepped} → is_accepted (phase old.past tag) ≡ true → IsFailed tag error lba old new answer → Kept
  broken {tag} {error} {lba} taken is =
      let no = untold (Fail tag error lba) old.past is.appended.first_same is.appended.past_is (omega arith) in
      let now : phase new.past tag ≡ phases.Broken = ap (λ p. phase p tag) is.appended.past_is ∙ same_tag tag (failed (phase old.past tag)) (phase old.past tag) ∙ (fails (phase old.past tag)).1 taken in
      let no_bits = subst (λ p. ¬ (IsOfTold (failed_in p new.area) i)) now no in
      put bits_place 8 (failed_bytes error) is.area_is refl (omega arith) (λ h. no_bits (inr (inr (inr h))))

  served : {tags : List ℕ} {answer : Stepped} → is_bad_list tags ≡ false → IsServed tags old new answer → Kept
  served {tags} good is =
      let last = last_completed old.past tags good in
      let no = untold (Complete last.0) last.1 is.appended.first_same (is.appended.past_is ∙ last.2) last.3 in
      let setups = all_setups old tags old.area i size (λ h. no (inl h)) in
      ap (λ a. get_or a i 0) is.area_is
      ∙ put_outside bits_place 8 i (completed_bytes (word_of_tags tags)) (with_setups old old.area tags) refl (omega (arith, setups.0)) (λ h. no (inr (inr (inr h))))
      ∙ setups.1

  recovered_from : {tag : ℕ} → IsRecovered tag old new → Kept
  recovered_from {tag} is =
      let no = untold (Recover tag) old.past is.appended.first_same is.appended.past_is (omega arith) in
      put pio_place 20 pio_bytes is.area_is refl (omega arith) (λ h. no (inr (inl h)))

  identified : IsIdentified old new → Kept
  identified is =
      let no = untold (Unqueued plain.Identify) old.past is.appended.first_same is.appended.past_is (omega arith) in
      put pio_place 20 pio_bytes is.area_is refl (omega arith) (λ h. no (inr (inl h)))

  flushed : IsFlushed old new → Kept
  flushed is =
      let no = untold (Unqueued plain.Flush) old.past is.appended.first_same is.appended.past_is (omega arith) in
      put register_place 20 flushed_bytes is.area_is refl (omega arith) (λ h. no (inr (inr (inl h))))

  -- ---- by the command

  taken : (passes : Bool) (tag : ℕ) (w : Work) (answer : Stepped) → is_issued (phase old.past tag) ≡ true → TakenBy passes tag w old new answer → Kept
  taken true tag w answer issued is = rejected issued is
  taken false tag w answer issued is = accepted is

  taken_of : (o : Option Request) (tag : ℕ) (answer : Stepped) → is_issued (phase old.past tag) ≡ true → IsSomeAnd o (λ r. IsTaken tag r.work old new answer) → Kept
  taken_of None tag answer issued is = absurd is
  taken_of (Some r) tag answer issued is = taken (passes_end old r.work) tag r.work answer issued is

  window : {w : WindowState} {said : Said} → AnswersWindow w old new said → Kept
  window (answers.is_issued may fit issued told) = same_area issued.area_same
  window (answers.is_refused fault name refuses named same told) = same_area (ap (λ (p : PortView). p.area) same)

  -- a refusal changes nothing
  answered : (o : Option Refusal) (said : Said) (Done : Type 0) → RefusedOr o old new said Done → (o ≡ None → Done → Kept) → Kept
  answered (Some r) said Done is done = same_area (ap (λ (p : PortView). p.area) is.0)
  answered None said Done is done = done refl is

-- ---- the law

pub tells_received : TellsReceived
tells_received old new (command.Write tag lba sectors fill) said size ran i outside =
    answered old new i size outside (refusal_on old (command.Write tag lba sectors fill)) said _ ran (λ none done. same_area old new i size outside done.issued.area_same)
tells_received old new (command.Read tag lba sectors) said size ran i outside =
    answered old new i size outside (refusal_on old (command.Read tag lba sectors)) said _ ran (λ none done. same_area old new i size outside done.issued.area_same)
tells_received old new (command.Raw tag w) said size ran i outside = window old new i size outside ran
tells_received old new (command.Disk sectors depth first) said size ran i outside = absurd ran
tells_received old new (command.Accept tag) said size ran i outside =
    answered old new i size outside (refusal_on old (command.Accept tag)) said _ ran
    (λ none done. taken_of old new i size outside (request old.past tag) tag done.done (unrefused_accept (halted old.past) (is_issued (phase old.past tag)) none) done.stepped)
tells_received old new (command.Serve tags) said size ran i outside =
    answered old new i size outside (refusal_on old (command.Serve tags)) said _ ran
    (λ none done. served old new i size outside (unrefused_serve (halted old.past) (are_accepted old.past tags.items) (is_bad_list tags.items) none) done.stepped)
tells_received old new (command.Fail tag error lba) said size ran i outside =
    answered old new i size outside (refusal_on old (command.Fail tag error lba)) said _ ran
    (λ none done. broken old new i size outside
    (unrefused_fail (halted old.past) (is_accepted (phase old.past tag)) (is_of_request (request old.past tag) lba) none) done.stepped)
tells_received old new (command.Collect tag number) said size ran i outside =
    answered old new i size outside (refusal_on old (command.Collect tag number)) said _ ran (λ none done. same_area old new i size outside done.collected.area_same)
tells_received old new command.Recover said size ran i outside =
    answered old new i size outside (refusal_on old command.Recover) said _ ran (λ none done. recovered_from old new i size outside done.recovered)
tells_received old new (command.Reissue tag) said size ran i outside =
    answered old new i size outside (refusal_on old (command.Reissue tag)) said _ ran (λ none done. same_area old new i size outside done.0.area_same)
tells_received old new (command.Identify word) said size ran i outside =
    answered old new i size outside (refusal_on old (command.Identify word)) said _ ran (λ none done. identified old new i size outside done.0)
tells_received old new command.Flush said size ran i outside =
    answered old new i size outside (refusal_on old command.Flush) said _ ran (λ none done. flushed old new i size outside done.0)
tells_received old new (command.Reg off) said size ran i outside =
    answered old new i size outside (refusal_on old (command.Reg off)) said _ ran (λ none done. same_area old new i size outside (ap (λ (p : PortView). p.area) done.0))
tells_received old new (command.Ack mask) said size ran i outside = same_area old new i size outside (ap (λ (p : PortView). p.area) ran.0)
tells_received old new (command.Show lba) said size ran i outside =
    answered old new i size outside (refusal_on old (command.Show lba)) said _ ran (λ none done. same_area old new i size outside (ap (λ (p : PortView). p.area) done.0))
tells_received old new command.Journal said size ran i outside = same_area old new i size outside (ap (λ (p : PortView). p.area) ran.0)
tells_received old new command.Trim said size ran i outside =
    answered old new i size outside (refusal_on old command.Trim) said _ ran (λ none done. same_area old new i size outside (ap (λ (p : PortView). p.area) done.0))
