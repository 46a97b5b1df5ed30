-- The writes that are reported have moved the registers.
use Rattle.std.proofs.Common.{◌≡◌, ◌∙◌, ℕ, ◌+◌, ◌<◌, ◌≤◌, Bool, true, false, cond, List, [], ◌∷◌, Option, None, Some, length, refl, sym, ap, subst, arith}
use Rattle.std.specs.Prelude.{◌^◌, IsSomeAnd, nat_lt}
use Rattle.std.proofs.lemmas.Bool.Decides.{nat_tests}
use Rattle.ahci_port.specs.Faults.{are_accepted, is_bad_list}
use Rattle.ahci_port.specs.PortView.{PortView}
use Rattle.ahci_port.specs.Registers.{issued}
use Rattle.ahci_port.specs.Steps.{Appends, IsIssued, IsServed, IsTaken, TakenBy, passes_end}
use Rattle.ahci_port.specs.declared.step.Stepped.{Stepped}
use Rattle.ahci_regs.specs.PortState.{PortState}
use Rattle.ahci_regs.specs.declared.register.Register.TheVariants.{PxSact, PxCi}
use Rattle.ahci_replay.specs.Commands.{AnswersWindow, RefusedOr}
use Rattle.ahci_replay.specs.Commands as answers
use Rattle.ahci_replay.specs.Refusals.{refusal_on}
use Rattle.ahci_script.specs.Said.{Said}
use Rattle.ahci_script.specs.declared.line.ScriptCommand.TheVariants as command
use Rattle.port_refusal.specs.declared.refusal.Refusal.{Refusal}
use Rattle.ahci_table.specs.Window.{WindowState}
use Rattle.ncq_journal.specs.Entry.{Entry, Complete}
use Rattle.ncq_journal.specs.Halted.{halted}
use Rattle.ncq_journal.specs.Request.{Request, request}
use Rattle.ncq_journal.specs.Work.{Work}
use Rattle.ahci_trace.proofs.NewestLemmas.{last_completed, nothing_new, told_by, unrefused_serve}
use Rattle.ncq_journal.specs.EventKind.{kind_of}
use Rattle.ahci_trace.specs.Entries.{newest}
use Rattle.ahci_trace.specs.Mark.{mark_of}
use Rattle.ahci_trace.specs.Moves.{Moves, TellsWrites, ToldMove, after_writes}
use Rattle.ahci_trace.specs.Writes.{issuing, write, writes_by}
use Rattle.ncq_journal.specs.declared.event_kind.EventKind.{EventKind}

-- PxSACT and then PxCI are the port's two writes
issued_by : (s : PortState) (tag : ℕ) → tag < 32 → issued s tag ≡ after_writes s (issuing tag)
issued_by s tag low = ap (λ b. after_writes s (cond b (write PxSact (2 ^ tag) ∷ write PxCi (2 ^ tag) ∷ []) [])) (sym is_low)
  where
    is_low : nat_lt tag 32 ≡ true
    is_low = grind (arith, nat_tests)

module _ (old new : PortView) where
  by : (last : Option EventKind) → newest (mark_of (Some old)) new.first new.past ≡ last → Moves (writes_by last) last old.registers new.registers → ToldMove old new
  by last is moves = subst (λ l. Moves (writes_by l) l old.registers new.registers) (sym is) moves

  -- one entry was appended
  appended : (entry : Entry) → Appends old new entry → Moves (writes_by (Some (kind_of entry))) (Some (kind_of entry)) old.registers new.registers → ToldMove old new
  appended entry is moves = by (Some (kind_of entry)) (told_by old new entry old.past is.first_same is.past_is (omega arith)) moves

  -- none was
  still : new.first + length new.past ≤ old.first + length old.past → ToldMove old new
  still before = by None (nothing_new old new.first new.past before) refl

  same : new ≡ old → ToldMove old new
  same is = still (subst (λ (p : PortView). p.first + length p.past ≤ old.first + length old.past) (sym is) (omega arith))

  served : {tags : List ℕ} {answer : Stepped} → is_bad_list tags ≡ false → IsServed tags old new answer → ToldMove old new
  served {tags} good is =
      let last = last_completed old.past tags good in
      by (Some (kind_of (Complete last.0))) (told_by old new (Complete last.0) last.1 is.appended.first_same (is.appended.past_is ∙ last.2) last.3) refl

  taken : (passes : Bool) (tag : ℕ) (w : Work) (answer : Stepped) → TakenBy passes tag w old new answer → ToldMove old new
  taken true tag w answer is = appended _ is.appended refl
  taken false tag w answer is = appended _ is.appended refl

  taken_of : (o : Option Request) (tag : ℕ) (answer : Stepped) → IsSomeAnd o (λ r. IsTaken tag r.work old new answer) → ToldMove old new
  taken_of None tag answer is = absurd is
  taken_of (Some r) tag answer is = taken (passes_end old r.work) tag r.work answer is

  was_issued : {w : WindowState} → IsIssued w old new → ToldMove old new
  was_issued {w} is = appended _ is.appended (λ low. is.registers_are ∙ issued_by old.registers w.tag low)

  window : {w : WindowState} {said : Said} → AnswersWindow w old new said → ToldMove old new
  window (answers.is_issued may fit issued told) = was_issued issued
  window (answers.is_refused fault name refuses named is told) = same is

  -- a refusal changes nothing
  answered : (o : Option Refusal) (said : Said) (Done : Type 0) → RefusedOr o old new said Done → (o ≡ None → Done → ToldMove old new) → ToldMove old new
  answered (Some r) said Done is done = same is.0
  answered None said Done is done = done refl is

-- ---- the law

pub tells_writes : TellsWrites
tells_writes old new (command.Write tag lba sectors fill) said ran =
    answered old new (refusal_on old (command.Write tag lba sectors fill)) said _ ran (λ none done. was_issued old new done.issued)
tells_writes old new (command.Read tag lba sectors) said ran =
    answered old new (refusal_on old (command.Read tag lba sectors)) said _ ran (λ none done. was_issued old new done.issued)
tells_writes old new (command.Raw tag w) said ran = window old new ran
tells_writes old new (command.Disk sectors depth first) said ran = absurd ran
tells_writes old new (command.Accept tag) said ran =
    answered old new (refusal_on old (command.Accept tag)) said _ ran (λ none done. taken_of old new (request old.past tag) tag done.done done.stepped)
tells_writes old new (command.Serve tags) said ran =
    answered old new (refusal_on old (command.Serve tags)) said _ ran
    (λ none done. served old new (unrefused_serve (halted old.past) (are_accepted old.past tags.items) (is_bad_list tags.items) none) done.stepped)
tells_writes old new (command.Fail tag error lba) said ran =
    answered old new (refusal_on old (command.Fail tag error lba)) said _ ran (λ none done. appended old new _ done.stepped.appended refl)
tells_writes old new (command.Collect tag number) said ran =
    answered old new (refusal_on old (command.Collect tag number)) said _ ran (λ none done. appended old new _ done.collected.appended refl)
tells_writes old new command.Recover said ran =
    answered old new (refusal_on old command.Recover) said _ ran (λ none done. appended old new _ done.recovered.appended done.recovered.registers_are)
tells_writes old new (command.Reissue tag) said ran =
    answered old new (refusal_on old (command.Reissue tag)) said _ ran
    (λ none done. appended old new _ done.0.appended (λ low. done.0.registers_are ∙ issued_by old.registers tag low))
tells_writes old new (command.Identify word) said ran =
    answered old new (refusal_on old (command.Identify word)) said _ ran (λ none done. appended old new _ done.0.appended done.0.registers_are)
tells_writes old new command.Flush said ran =
    answered old new (refusal_on old command.Flush) said _ ran (λ none done. appended old new _ done.0.appended done.0.registers_are)
tells_writes old new (command.Reg off) said ran =
    answered old new (refusal_on old (command.Reg off)) said _ ran (λ none done. same old new done.0)
tells_writes old new (command.Ack mask) said ran =
    still old new (subst (λ (p : PortView). p.first + length p.past ≤ old.first + length old.past) (sym ran.0) (omega arith))
tells_writes old new (command.Show lba) said ran =
    answered old new (refusal_on old (command.Show lba)) said _ ran (λ none done. same old new done.0)
tells_writes old new command.Journal said ran = same old new ran.0
tells_writes old new command.Trim said ran =
    answered old new (refusal_on old command.Trim) said _ ran
    (λ none done. still old new (subst (λ (p : PortView). p.first + length p.past ≤ old.first + length old.past) (sym done.0) (omega arith)))
