-- What comes back where an answer is not collected.
use Rattle.std.specs.Prelude.{ℕ, Result, Ok, Err, IfErr, IsOk, IsErrAnd, MatchOption, Option, None, Some}
use Rattle.std.proofs.Common.{◌≡◌, List, subst, sym}
use Rattle.ncq_journal.specs.declared.outcome.Outcome.{Outcome}
use Rattle.ahci_port.specs.declared.step.DeviceStep.{DeviceStep}
use Rattle.ahci_port.specs.PortView.{PortView}
use Rattle.ahci_driver.specs.Finishing.{HasAnswered, HasGotOn, HasReceived, HasTaken, HasWaited, at_once, no_turn, one_more, turn}
use Rattle.ahci_driver.specs.Pumping.{HasGotOn as HasPumpedOn}

-- what comes back with a refusal that is reported exactly
pub came_back : {T E R : Type 0} (refusal : Option R) (result : Result T E) (P : E → Type 0) (Q : R → E → Type 0)
    → MatchOption refusal (IsOk result) (λ f. IsErrAnd result (λ e. P e × Q f e)) → IfErr result P
came_back refusal (Ok x) P Q h = tt
came_back None (Err e) P Q h = absurd cc
came_back (Some f) (Err e) P Q h = h.0

module _ {C : Type 0} (gives : C → ℕ → ℕ → DeviceStep → C → Type 0) where
  -- one turn with the lock
  pub waited_once : (before after : C) (old new : PortView) → HasGotOn gives before after old new → HasWaited gives before after
  waited_once before after old new got_on = turn before before after old new (no_turn before) got_on

  -- a pump is such a turn
  pub pump_is_a_turn : (before between after : C) → HasWaited gives before between → HasPumpedOn gives between after → HasWaited gives before after
  pump_is_a_turn before between after waited (p, pumped) =
      turn before between after pumped.old pumped.new waited
      (one_more between between after pumped.old pumped.old pumped.new p (at_once between pumped.old) pumped.pumped pumped.asked)

  -- turns after one another
  pub waited_on : (before between after : C) → HasWaited gives before between → HasWaited gives between after → HasWaited gives before after
  waited_on before _ _ first (no_turn chooser) = first
  waited_on before _ _ first (turn _ middle last old new then got_on) = turn before middle last old new (waited_on before _ middle first then) got_on

  -- an answer after turns of its worker's own
  pub received_by : (start before after : C) (tag number entry : ℕ) (outcome : Outcome) (bytes stored : List ℕ)
      → HasWaited gives start before → HasAnswered gives before after tag number entry outcome bytes → stored ≡ bytes
      → HasReceived gives start after (record { number = number; answer = record { entry = entry; outcome = outcome; bytes = stored } })
  received_by start before after tag number entry outcome bytes stored waited answered same = record {
    tag = tag;
    answered = record {
      between = answered.between;
      waited = waited_on start before answered.between waited answered.waited;
      taken = subst (λ b. HasTaken gives answered.between after tag number entry outcome b) (sym same) answered.taken;
    };
  }
