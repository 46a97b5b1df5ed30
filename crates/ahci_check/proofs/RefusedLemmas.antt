-- Every port refuses a line, where the line passes a limit of the port.
use Rattle.std.proofs.Common.{◌≡◌, ℕ, suc, ◌+◌, ◌≤◌, ◌<◌, ◌^◌, ◌==◌, ◌&&◌, ◌||◌, Bool, true, false, cond, List, [], ◌∷◌, ◌++◌, Option, Some, None, Result, Ok, Err, is_some, is_none, length, append_assoc, refl, sym, ap, ◌∙◌, subst, arith}
use Rattle.std.specs.List.{list_any}
use Rattle.std.specs.Option.{IsSomeAnd, option_map, option_or}
use Rattle.std.proofs.Common.{inl, inr, ◌⊎◌}
use Rattle.std.specs.Prelude.{nat_eq, nat_le, nat_lt}
use Rattle.std.specs.Result.{result_ok}
use Rattle.std.proofs.lemmas.Bool.{eqb-true, leb-true, lt-leb}
use Rattle.std.proofs.lemmas.Bool.Decides.{Decides-eqb}
use Rattle.ncq_journal.specs.Halted.{halted}
use Rattle.ncq_journal.specs.Lawful.{Fits, most_sectors}
use Rattle.ncq_journal.specs.Phase.{phase}
use Rattle.ncq_journal.specs.Request.{Request, request}
use Rattle.ncq_journal.specs.Work.{lba_of, sectors_of}
use Rattle.ncq_journal.specs.declared.phase.Phase.{Phase}
use Rattle.ncq_journal.specs.declared.phase.Phase.TheVariants.{Free, Accepted}
use Rattle.ncq_journal.proofs.PhaseLemmas.{accepted_fits, free_past_depth}
use Rattle.ahci_regs.specs.PortState.{PortState}
use Rattle.ahci_regs.specs.Reading.{read_at}
use Rattle.ahci_regs.specs.RegisterTable.{register_at}
use Rattle.ahci_regs.specs.declared.fault.RegFault.{RegFault}
use Rattle.ahci_regs.specs.declared.register.Register.{Register}
use Rattle.ahci_port.specs.Faults.{are_accepted, early_refusal, is_accepted, is_bad_list, is_done, is_held, is_issued, is_of_request, is_owner, names_twice}
use Rattle.ahci_port.specs.Headline.{Headline}
use Rattle.ahci_port.specs.PortView.{PortView, is_free, sectors_in}
use Rattle.ahci_port.specs.declared.fault.CollectFault.TheVariants as collect
use Rattle.ahci_port.specs.declared.fault.IssueFault.{IssueFault}
use Rattle.ahci_port.specs.declared.fault.IssueFault.TheVariants as issue
use Rattle.ahci_port.specs.declared.fault.ReissueFault.TheVariants as reissue
use Rattle.ahci_port.specs.declared.fault.StepFault.TheVariants as step
use Rattle.ahci_replay.specs.Commands.{AnswersWindow, MakesDisk, RefusedOr, Runs, RunsOn, window_of}
use Rattle.ahci_replay.specs.Commands as runs
use Rattle.ahci_port.specs.Refusals.{of_collect, of_reissue, of_step}
use Rattle.ahci_port.specs.declared.fault.SubmitFault.TheVariants as submit
use Rattle.ahci_replay.specs.Refusals.{disk_refusal, issue_refusal, joined, of_submit, refusal_on, register_refusal, show_refusal}
use Rattle.ahci_script.specs.Lines.{reading}
use Rattle.ahci_script.specs.Said.{Said}
use Rattle.ahci_script.specs.Words.{after_first}
use Rattle.ahci_script.specs.declared.breach.Breach.{Breach}
use Rattle.ahci_script.specs.declared.line.Line.{Line}
use Rattle.ahci_script.specs.declared.line.Line.TheVariants.{Skip, Run}
use Rattle.ahci_script.specs.declared.line.ScriptCommand.{ScriptCommand}
use Rattle.ahci_script.specs.declared.line.ScriptCommand.TheVariants as command
use Rattle.port_refusal.specs.declared.refusal.Refusal.{Refusal}
use Rattle.port_refusal.specs.declared.refusal.Refusal.TheVariants as name
use Rattle.ahci_table.specs.Window.{WindowState}
use Rattle.ahci_check.proofs.AgreementLemmas.{disk_alike}
use Rattle.ahci_check.proofs.WindowLemmas.{fit_has_none}
use Rattle.ahci_check.specs.Agreement.{place_of}
use Rattle.ahci_check.specs.Complaints.{is_in_place, is_language, misplaced, of_excess, of_reading}
use Rattle.ahci_check.specs.Limits.{count_excess, excess_at, excess_after_disk, excess_in, far_tag, fail_excess, raw_excess, register_excess, sector_excess, tag_excess, transfer_excess, twice_among, window_excess}
use Rattle.ahci_check.specs.Refused.{IsPort, IsRefusal, PortRefuses}
use Rattle.ahci_check.specs.Windows.{table_fault}
use Rattle.ahci_check.specs.declared.complaint.Complaint.{Complaint}
use Rattle.ahci_check.specs.declared.excess.Excess.{Excess}
use Rattle.ahci_check.specs.declared.limit.Limit.TheVariants as limit
use Rattle.ahci_check.specs.declared.rule.Rule.TheVariants.{Language}

abbrev Refuses : PortView → PortView → Said → Type 0
Refuses port new said = (new ≡ port) × IsRefusal said

-- a refusal that holds is the answer
answered : (o : Option Refusal) (port new : PortView) (said : Said) (Done : Type 0) → is_some o ≡ true → RefusedOr o port new said Done → Refuses port new said
answered None port new said Done some ran = absurd (let z : false ≡ true = some in cc)
answered (Some refusal) port new said Done some ran = (ran.0, subst IsRefusal (sym ran.1) tt)

-- the first of two, or the second
either : {T : Type 0} (a b : Option T) (e : T) → option_or a b ≡ Some e → (a ≡ Some e) ⊎ (b ≡ Some e)
either None b e is = inr is
either (Some x) b e is = inl is

-- what holds where a test does
tested : {T : Type 0} (b : Bool) (x : Option T) (e : T) → cond b x None ≡ Some e → b ≡ true
tested true x e is = refl
tested false x e is = absurd (cc)

one_of : (a b : Bool) → b ≡ true → (a || b) ≡ true
one_of true b e = refl
one_of false b e = e

both : (a b : Bool) → b ≡ false → (a && b) ≡ false
both true b e = e
both false b e = refl

-- ---- a tag past the depth is free

far : (depth tag : ℕ) (words : List ℕ) (e : Excess) → tag_excess depth words tag ≡ Some e → depth ≤ tag
far depth tag words e is = leb-true depth tag (tested (nat_le depth tag) _ e is)

free : (port : PortView) (tag : ℕ) → Headline port → port.depth ≤ tag → phase port.past tag ≡ Free
free port tag h past = free_past_depth (sectors_in port) port.depth port.past tag h.lawful past

accept_refused : (h : Bool) (p : Phase) → p ≡ Free → is_some (option_map of_step (cond h (Some step.Halted) (cond (is_issued p) None (Some step.NotIssued)))) ≡ true
accept_refused true p is = refl
accept_refused false p is = ap (λ q. is_some (option_map of_step (cond (is_issued q) None (Some step.NotIssued)))) is

reissue_refused : (h : Bool) (p : Phase) → p ≡ Free → is_some (option_map of_reissue (cond h (Some reissue.Halted) (cond (is_held p) None (Some reissue.NotHeld)))) ≡ true
reissue_refused true p is = refl
reissue_refused false p is = ap (λ q. is_some (option_map of_reissue (cond (is_held q) None (Some reissue.NotHeld)))) is

collect_refused : (p : Phase) (owner : Option ℕ) (number : ℕ) → p ≡ Free
    → is_some (option_map of_collect (cond (is_owner (cond (is_free p) None owner) number) (cond (is_done p) None (Some collect.NotYet)) (Some collect.Stranger))) ≡ true
collect_refused p owner number is =
    ap (λ q. is_some (option_map of_collect (cond (is_owner (cond (is_free q) None owner) number) (cond (is_done q) None (Some collect.NotYet)) (Some collect.Stranger)))) is

-- ---- a command that is served or failed

serve_refused : (h accepted bad : Bool) → (accepted ≡ false) ⊎ (bad ≡ true)
    → is_some (option_map of_step (cond h (Some step.Halted) (cond accepted (cond bad (Some step.BadTags) None) (Some step.NotAccepted)))) ≡ true
serve_refused true accepted bad why = refl
serve_refused false false bad why = refl
serve_refused false true true why = refl
serve_refused false true false why = elim why [ inl e ↦ sym e | inr e ↦ e ]

not_accepted : (p : Phase) → p ≡ Free → is_accepted p ≡ false
not_accepted p is = ap is_accepted is

far_among : (port : PortView) (words tags : List ℕ) (e : Excess) → Headline port → far_tag port.depth words tags ≡ Some e → are_accepted port.past tags ≡ false
far_among port words [] e h is = absurd (let z : None ≡ Some e = is in cc)
far_among port words (tag ∷ tags) e h is =
    elim (either (tag_excess port.depth words tag) (far_tag port.depth (after_first words) tags) e is) [
      | inl here ↦ ap (λ a. a && are_accepted port.past tags) (not_accepted (phase port.past tag) (free port tag h (far port.depth tag words e here)))
      | inr later ↦ both (is_accepted (phase port.past tag)) (are_accepted port.past tags) (far_among port (after_first words) tags e h later)
    ]

-- a tag is in a list
stands_in : (b t : ℕ) (before tags : List ℕ) → nat_eq b t ≡ true → list_any (λ other. nat_eq other b) (before ++ t ∷ tags) ≡ true
stands_in b t [] tags is = ap (λ x. x || list_any (λ other. nat_eq other b) tags) ((Decides-eqb t b).1 (sym (eqb-true b t is)))
stands_in b t (x ∷ before) tags is = one_of (nat_eq x b) (list_any (λ other. nat_eq other b) (before ++ t ∷ tags)) (stands_in b t before tags is)

named_twice : (before : List ℕ) (t : ℕ) (tags : List ℕ) → list_any (λ other. nat_eq other t) before ≡ true → names_twice (before ++ t ∷ tags) ≡ true
named_twice [] t tags is = absurd (let z : false ≡ true = is in cc)
named_twice (b ∷ before) t tags is = by (nat_eq b t) refl (λ e. named_twice before t tags e)
  where
    by : (r : Bool) → nat_eq b t ≡ r → (list_any (λ other. nat_eq other t) before ≡ true → names_twice (before ++ t ∷ tags) ≡ true) → names_twice ((b ∷ before) ++ t ∷ tags) ≡ true
    by true e rest = ap (λ x. x || names_twice (before ++ t ∷ tags)) (stands_in b t before tags e)
    by false e rest =
        one_of (list_any (λ other. nat_eq other b) (before ++ t ∷ tags)) (names_twice (before ++ t ∷ tags)) (rest (ap (λ r. r || list_any (λ other. nat_eq other t) before) (sym e) ∙ is))

twice : (before words tags : List ℕ) (e : Excess) → twice_among before words tags ≡ Some e → names_twice (before ++ tags) ≡ true
twice before words [] e is = absurd (let z : None ≡ Some e = is in cc)
twice before words (t ∷ tags) e is = by (list_any (λ other. nat_eq other t) before) refl is (λ h. twice (before ++ t ∷ []) (after_first words) tags e h)
  where
    by : (r : Bool) → list_any (λ other. nat_eq other t) before ≡ r
        → cond r (excess_at words (limit.TagTwice t)) (twice_among (before ++ t ∷ []) (after_first words) tags) ≡ Some e
        → (twice_among (before ++ t ∷ []) (after_first words) tags ≡ Some e → names_twice ((before ++ t ∷ []) ++ tags) ≡ true) → names_twice (before ++ t ∷ tags) ≡ true
    by true found is rest = named_twice before t tags found
    by false found is rest = ap names_twice (sym (append_assoc before (t ∷ []) tags)) ∙ rest is

-- an accepted command has no sector that the disk lacks
accepted : (p : Phase) → is_accepted p ≡ true → p ≡ Accepted
accepted Accepted e = refl
accepted p e = absurd (cc)

uncovered : (o : Option Request) (s lba : ℕ) → IsSomeAnd o (λ r. Fits s r.work) → s ≤ lba → is_of_request o lba ≡ false
uncovered None s lba fits past = absurd fits
uncovered (Some r) s lba fits past =
    both (nat_le (lba_of r.work) lba) (nat_lt lba (lba_of r.work + sectors_of r.work))
    (lt-leb (suc lba) (lba_of r.work + sectors_of r.work) (let f : lba_of r.work + sectors_of r.work ≤ s = fits in omega arith))

lacks : (port : PortView) (tag lba : ℕ) → Headline port → sectors_in port ≤ lba → is_accepted (phase port.past tag) ≡ true → is_of_request (request port.past tag) lba ≡ false
lacks port tag lba h past is =
    uncovered (request port.past tag) (sectors_in port) lba (accepted_fits (sectors_in port) port.depth port.past tag h.lawful (accepted (phase port.past tag) is)) past

fail_refused : (h a of : Bool) → (a ≡ true → of ≡ false)
    → is_some (option_map of_step (cond h (Some step.Halted) (cond a (cond of None (Some step.OutsideCommand)) (Some step.NotAccepted)))) ≡ true
fail_refused true a of lacking = refl
fail_refused false false of lacking = refl
fail_refused false true of lacking = ap (λ b. is_some (option_map of_step (cond b None (Some step.OutsideCommand)))) (lacking refl)

fail_why : (port : PortView) (words : List ℕ) (tag lba : ℕ) (e : Excess) → Headline port → fail_excess (sectors_in port) port.depth words tag lba ≡ Some e
    → is_accepted (phase port.past tag) ≡ true → is_of_request (request port.past tag) lba ≡ false
fail_why port words tag lba e h is taken =
    elim (either (tag_excess port.depth words tag) (sector_excess (sectors_in port) (after_first (after_first words)) lba) e is) [
      | inl past ↦ absurd (let n = not_accepted (phase port.past tag) (free port tag h (far port.depth tag words e past)) in let z : true ≡ false = sym taken ∙ n in cc)
      | inr past ↦ lacks port tag lba h (leb-true (sectors_in port) lba (tested (nat_le (sectors_in port) lba) _ e past)) taken
    ]

-- ---- a command that is issued

count_refused : (a b c : Bool) (early : Option IssueFault) (x y z : Option Excess) (e : Excess) → cond a x (cond b y (cond c z None)) ≡ Some e
    → is_some (joined (option_map of_submit (cond (a || b) (Some submit.BadCount) (cond c (Some submit.BadLba) (option_map submit.Issue early))))) ≡ true
count_refused true b c early x y z e is = refl
count_refused false true c early x y z e is = refl
count_refused false false true early x y z e is = refl
count_refused false false false early x y z e is = absurd (cc)

tag_refused : (a b c h d : Bool) (other : Option IssueFault) → d ≡ true
    → is_some (joined (option_map of_submit (cond (a || b) (Some submit.BadCount) (cond c (Some submit.BadLba) (option_map submit.Issue (cond h (Some issue.Halted) (cond d (Some issue.NoSuchTag) other))))))) ≡ true
tag_refused true b c h d other is = refl
tag_refused false true c h d other is = refl
tag_refused false false true h d other is = refl
tag_refused false false false true d other is = refl
tag_refused false false false false d other is = ap (λ t. is_some (joined (option_map of_submit (option_map submit.Issue (cond t (Some issue.NoSuchTag) other))))) is

issue_refused : (port : PortView) (words : List ℕ) (tag lba count : ℕ) (e : Excess) → transfer_excess port.depth words tag lba count ≡ Some e → is_some (issue_refusal port tag lba count) ≡ true
issue_refused port words tag lba count e is =
    elim (either (count_excess (after_first words) lba count) (tag_excess port.depth words tag) e is) [
      | inl past ↦ count_refused (count == 0) (nat_lt most_sectors count) (nat_le (2 ^ 48) lba) (early_refusal port tag) _ _ _ e past
      | inr past ↦ tag_refused (count == 0) (nat_lt most_sectors count) (nat_le (2 ^ 48) lba) (halted port.past) (nat_le port.depth tag) _ (tested (nat_le port.depth tag) _ e past)
    ]

raw_refused : (port new : PortView) (words : List ℕ) (w : WindowState) (said : Said) (e : Excess) → raw_excess port.depth words w ≡ Some e → AnswersWindow w port new said → Refuses port new said
raw_refused port new words w said e is (runs.is_issued may fit issued told) =
    absurd (elim (either (tag_excess port.depth words w.tag) (window_excess (after_first words) (table_fault w)) e is) [
      | inl past ↦ (let d = far port.depth w.tag words e past in let b : w.tag < port.depth = may.below in omega arith)
      | inr broken ↦ (let z : None ≡ Some e = sym (ap (window_excess (after_first words)) (fit_has_none w fit)) ∙ broken in cc)
    ])
raw_refused port new words w said e is (runs.is_refused fault shown refuses named same told) = (same, subst IsRefusal (sym told) tt)

-- ---- what there is to see

register_refused : (s : PortState) (r : Result Register RegFault) (words : List ℕ) (e : Excess) → register_excess words r ≡ Some e → is_some (register_refusal (read_at s r)) ≡ true
register_refused s (Ok register) words e is = absurd (let z : None ≡ Some e = is in cc)
register_refused s (Err fault) words e is = refl

show_refused : (port : PortView) (words : List ℕ) (lba : ℕ) (e : Excess) → sector_excess (sectors_in port) words lba ≡ Some e → is_some (show_refusal port lba) ≡ true
show_refused port words lba e is =
    let past = leb-true (sectors_in port) lba (tested (nat_le (sectors_in port) lba) _ e is) in
    ap (λ b. is_some (cond b None (Some name.NoSuchSector))) (lt-leb (suc lba) (sectors_in port) (omega arith))

-- ---- every command

refused : (port new : PortView) (words : List ℕ) (c : ScriptCommand) (said : Said) (e : Excess) → Headline port → excess_after_disk (sectors_in port) port.depth words c ≡ Some e
    → RunsOn port c new said → Refuses port new said
refused port new words (command.Write tag lba count fill) said e h is ran =
    answered (issue_refusal port tag lba count) port new said _ (issue_refused port words tag lba count e is) ran
refused port new words (command.Read tag lba count) said e h is ran =
    answered (issue_refusal port tag lba count) port new said _ (issue_refused port words tag lba count e is) ran
refused port new words (command.Raw tag window) said e h is ran = raw_refused port new words (window_of tag window) said e is ran
refused port new words (command.Accept tag) said e h is ran =
    answered (refusal_on port (command.Accept tag)) port new said _ (accept_refused (halted port.past) (phase port.past tag) (free port tag h (far port.depth tag words e is))) ran
refused port new words (command.Serve tags) said e h is ran =
    answered (refusal_on port (command.Serve tags)) port new said _
    (serve_refused (halted port.past) (are_accepted port.past tags.items) (is_bad_list tags.items) (elim (either (far_tag port.depth words tags.items) (twice_among [] words tags.items) e is) [
      | inl past ↦ inl (far_among port words tags.items e h past)
      | inr found ↦ inr (one_of (nat_eq (length tags.items) 0) (names_twice tags.items) (twice [] words tags.items e found))
    ])) ran
refused port new words (command.Fail tag error lba) said e h is ran =
    answered (refusal_on port (command.Fail tag error lba)) port new said _
    (fail_refused (halted port.past) (is_accepted (phase port.past tag)) (is_of_request (request port.past tag) lba) (fail_why port words tag lba e h is)) ran
refused port new words (command.Collect tag number) said e h is ran =
    answered (refusal_on port (command.Collect tag number)) port new said _
    (collect_refused (phase port.past tag) _ number (free port tag h (far port.depth tag words e is))) ran
refused port new words (command.Reissue tag) said e h is ran =
    answered (refusal_on port (command.Reissue tag)) port new said _ (reissue_refused (halted port.past) (phase port.past tag) (free port tag h (far port.depth tag words e is))) ran
refused port new words (command.Reg off) said e h is ran =
    answered (refusal_on port (command.Reg off)) port new said _ (register_refused port.registers (register_at off) words e is) ran
refused port new words (command.Show lba) said e h is ran = answered (show_refusal port lba) port new said _ (show_refused port words lba e is) ran
refused port new words c said e h is ran = absurd (let z : None ≡ Some e = is in cc)

first_refused : (refusal : Option Refusal) (sectors depth : ℕ) (first : Option ℕ) (new : Option PortView) (said : Said) → is_none refusal ≡ false
    → MakesDisk refusal sectors depth first new said → (new ≡ None) × IsRefusal said
first_refused None sectors depth first new said some made = absurd (let z : true ≡ false = some in cc)
first_refused (Some refusal) sectors depth first new said some made = (made.0, subst IsRefusal (sym made.1) tt)

by_port : (port new : Option PortView) (line : List ℕ) (c : ScriptCommand) (said : Said) (e : Excess) → IsPort port → excess_in (place_of port) line c ≡ Some e → Runs port c new said
    → (new ≡ port) × IsRefusal said
by_port None new line (command.Disk sectors depth first) said e sound is ran =
    first_refused (disk_refusal sectors depth first) sectors depth first new said (sym (disk_alike (after_first line) sectors depth first) ∙ ap is_none is) ran
by_port None new line c said e sound is ran = absurd ran
by_port (Some port) (Some new) line c said e sound is ran = let r = refused port new (after_first line) c said e sound is ran in (ap Some r.0, r.1)
by_port (Some port) None line c said e sound is ran = absurd ran

pub port_refuses : PortRefuses
port_refuses port new number line complaint c said sound is lang spelled ran = by (reading line) is spelled
  where
    passed : (d : ScriptCommand) (o : Option Excess) → excess_in (place_of port) line d ≡ o → of_excess number line o ≡ Some complaint → Runs port d new said → (new ≡ port) × IsRefusal said
    passed d None found told does = absurd (let z : None ≡ Some complaint = told in cc)
    passed d (Some e) found told does = by_port port new line d said e sound found does

    placed : (d : ScriptCommand) (b : Bool) → cond b (of_excess number line (excess_in (place_of port) line d)) (Some (record { line = number; column = None; rule = Language (misplaced (place_of port)) })) ≡ Some complaint
        → Runs port d new said → (new ≡ port) × IsRefusal said
    placed d true told does = passed d (excess_in (place_of port) line d) refl told does
    placed d false told does =
        let other : record { line = number; column = None; rule = Language (misplaced (place_of port)) } ≡ complaint = cc in
        absurd (let z : true ≡ false = ap (λ (k : Complaint). is_language k.rule) other ∙ lang in cc)

    by : (r : Result Line Breach) → of_reading (place_of port) number line r ≡ Some complaint → result_ok r ≡ Some (Run c) → (new ≡ port) × IsRefusal said
    by (Err breach) told spells = absurd (cc)
    by (Ok Skip) told spells = absurd (cc)
    by (Ok (Run d)) told spells = let same : d ≡ c = cc in placed d (is_in_place (place_of port) d) told (subst (λ x. Runs port x new said) (sym same) ran)
