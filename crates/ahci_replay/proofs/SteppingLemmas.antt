-- Where the journal ends after a step of the device.
use Rattle.std.proofs.Common.{◌≡◌, ℕ, ◌+◌, Bool, true, false, List, [], ◌∷◌, length, ap, sym, subst, Option, None, Some, IsSomeAnd, arith}
use Rattle.ncq_journal.specs.Entry.{Entry, Complete}
use Rattle.ncq_journal.specs.Request.{Request, request}
use Rattle.ncq_journal.specs.Work.{Work}
use Rattle.ahci_port.specs.PortView.{PortView, next_number}
use Rattle.ahci_port.specs.Steps.{IsStepped, IsTaken, TakenBy, completes, passes_end}
use Rattle.ahci_port.specs.declared.step.DeviceStep.{DeviceStep}
use Rattle.ahci_port.specs.declared.step.DeviceStep.TheVariants as device
use Rattle.ahci_port.specs.declared.step.Stepped.{Stepped}
use Rattle.ahci_port.specs.declared.step.Stepped.TheVariants as stepped
use Rattle.ahci_replay.specs.Commands.{EndsAt}

length_completes : (past : List Entry) (tags : List ℕ) → length (completes past tags) ≡ length past + length tags
length_completes past [] = omega arith
length_completes past (tag ∷ tags) = let all = length_completes (Complete tag ∷ past) tags in omega arith

completes_none : (passes : Bool) (tag : ℕ) (work : Work) (old new : PortView) (first count : ℕ) → TakenBy passes tag work old new (stepped.Completed first count) → ⊥
completes_none true tag work old new first count taken = let e = taken.answer_is in absurd (cc)
completes_none false tag work old new first count taken = let e = taken.answer_is in absurd (cc)

taken_ends : (tag : ℕ) (old new : PortView) (asked : Option Request) (done : Stepped) → IsSomeAnd asked (λ r. IsTaken tag r.work old new done) → EndsAt done (next_number new)
taken_ends tag old new asked (stepped.Accepted entry) taken = tt
taken_ends tag old new asked (stepped.Failed entry) taken = tt
taken_ends tag old new None (stepped.Completed first count) taken = absurd taken
taken_ends tag old new (Some r) (stepped.Completed first count) taken = absurd (completes_none (passes_end old r.work) tag r.work old new first count taken)

pub ends_at : (step : DeviceStep) (old new : PortView) (done : Stepped) → IsStepped step old new done → EndsAt done (next_number new)
ends_at (device.Accept tag) old new done taken = taken_ends tag old new (request old.past tag) done taken
ends_at (device.Serve tags) old new done served =
    subst (λ d. EndsAt d (next_number new)) (sym served.answer_is)
    (let first = served.appended.first_same in let all = ap length served.appended.past_is in let count = length_completes old.past tags.items in omega arith)
ends_at (device.Fail tag error at) old new done failed = subst (λ d. EndsAt d (next_number new)) (sym failed.answer_is) tt
