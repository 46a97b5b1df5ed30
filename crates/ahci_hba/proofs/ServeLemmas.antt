-- The request of a tag that was just served is done, and is the owner's.
use Rattle.std.proofs.Common.{◌≡◌, ℕ, Bool, true, false, cond, List, ◌∷◌, [], Option, None, Some, IsSomeAnd, refl, ap, sym, subst, ◌∙◌}
use Rattle.std.proofs.lemmas.Bool.{eq-eqb}
use Rattle.std.specs.Option.{option_map}
use Rattle.ncq_journal.specs.declared.phase.Phase.TheVariants.{Done}
use Rattle.ncq_journal.specs.Entry.{Entry, Complete}
use Rattle.ncq_journal.specs.Numbering.{number_of}
use Rattle.ncq_journal.specs.Phase.{phase}
use Rattle.ncq_journal.specs.Request.{request}
use Rattle.ahci_port.specs.Faults.{collect_refusal, is_done, is_owner}
use Rattle.ahci_port.specs.PortView.{PortView, is_free, owner_of}
use Rattle.ahci_port.specs.Slots.{bytes_in}
use Rattle.ahci_port.specs.Steps.{IsCollected, IsStepped, answer_to}
use Rattle.ahci_port.specs.declared.step.DeviceStep.{DeviceStep}
use Rattle.ahci_port.specs.declared.step.DeviceStep.TheVariants.{Serve}
use Rattle.ahci_port.specs.declared.step.Stepped.{Stepped}
use Rattle.ahci_table.specs.Window.{WindowState}
use Rattle.ncq_journal.specs.declared.outcome.Outcome.{Outcome}
use Rattle.ahci_hba.specs.HbaView.{HbaView}
use Rattle.ahci_hba.specs.Queueing.{IsServed, command_at, handed_over, list_in, task_in}
use Rattle.ahci_port.specs.declared.fault.CollectFault.{CollectFault}
use Rattle.ahci_port.specs.declared.fault.CollectFault.TheVariants.{Stranger, NotYet}

-- the owner of a tag by a journal and its first number, and why its answer is not collected
abbrev pub owner_by : ℕ → List Entry → ℕ → Option ℕ
owner_by first past tag = cond (is_free (phase past tag)) None (option_map (λ r. number_of first r.number) (request past tag))

abbrev pub refusal_by : ℕ → List Entry → ℕ → ℕ → Option CollectFault
refusal_by first past tag number =
    cond (is_owner (owner_by first past tag) number) (cond (is_done (phase past tag)) None (Some NotYet)) (Some Stranger)

inner : (b : Bool) (o : Option ℕ) (n : ℕ) → cond b None o ≡ Some n → o ≡ Some n
inner true o n e = cc
inner false o n e = e

completed_is_done : (past : List Entry) (slot : ℕ) → phase (Complete slot ∷ past) slot ≡ Done
completed_is_done past slot = ap (λ b. cond b Done (phase past slot)) (eq-eqb slot slot refl)

completed_keeps_owner : (first : ℕ) (past : List Entry) (slot number : ℕ) → owner_by first past slot ≡ Some number → owner_by first (Complete slot ∷ past) slot ≡ Some number
completed_keeps_owner first past slot number e =
    ap (λ p. cond (is_free p) None (option_map (λ r. number_of first r.number) (request past slot))) (completed_is_done past slot)
    ∙ inner (is_free (phase past slot)) (option_map (λ r. number_of first r.number) (request past slot)) number e

completed_is_collected : (first : ℕ) (past : List Entry) (slot number : ℕ) → owner_by first past slot ≡ Some number → refusal_by first (Complete slot ∷ past) slot number ≡ None
completed_is_collected first past slot number e =
    ap (λ o. cond (is_owner o number) (cond (is_done (phase (Complete slot ∷ past) slot)) None (Some NotYet)) (Some Stranger)) (completed_keeps_owner first past slot number e)
    ∙ ap (λ b. cond b (cond (is_done (phase (Complete slot ∷ past) slot)) None (Some NotYet)) (Some Stranger)) (eq-eqb number number refl)
    ∙ ap (λ p. cond (is_done p) None (Some NotYet)) (completed_is_done past slot)

pub served_is_collected : (old middle : PortView) (slot number : ℕ) → owner_of old slot ≡ Some number → middle.first ≡ old.first → middle.past ≡ Complete slot ∷ old.past
    → collect_refusal middle slot number ≡ None
served_is_collected old middle slot number owner first past =
    ap (λ f. refusal_by f middle.past slot number) first ∙ ap (λ l. refusal_by old.first l slot number) past
    ∙ completed_is_collected old.first old.past slot number owner

-- what the port did makes up what the controller did
pub serves : (slot tag number entry : ℕ) (outcome : Outcome) (h new : HbaView) (middle port : PortView) (s : DeviceStep) (answer : Stepped) (window : WindowState)
    → tag ≡ slot → s ≡ Serve (record { items = tag ∷ [] }) → IsStepped s h.port middle answer → IsCollected tag middle port → Some number ≡ owner_of h.port tag
    → answer_to middle number ≡ Some (record { entry = entry; outcome = outcome; bytes = bytes_in outcome window })
    → new ≡ handed_over (record h { port = port }) slot window
    → IsServed slot (task_in (command_at h slot)) (list_in (command_at h slot)) h new
serves slot tag number entry outcome h new middle port s answer window same e stepped collected owner answered made = record {
  middle = middle;
  port = port;
  answer = answer;
  stepped = subst (λ x. IsStepped x h.port middle answer) (e ∙ ap (λ n. Serve (record { items = n ∷ [] })) same) stepped;
  collected = subst (λ n. IsCollected n middle port) same collected;
  window = window;
  number = number;
  owner = ap (λ n. owner_of h.port n) (sym same) ∙ sym owner;
  answered = subst (λ o. IsSomeAnd o (λ a. a.bytes ≡ bytes_in a.outcome window)) (sym answered) refl;
  served = made;
}
