-- A step of the port, and the one FIS that answers it.
use Rattle.std.proofs.Common.{◌≡◌, ℕ, Bool, true, ◌&&◌, List, Some, ap, refl, subst, sym, ◌∙◌}
use Rattle.sata_fis.specs.Fields.{QueuedFields}
use Rattle.hba_command.specs.declared.entry.PrdEntry.{PrdEntry}
use Rattle.hba_memory.specs.DmaWrites.{DmaWritesView}
use Rattle.hba_memory.specs.Runs.{Put}
use Rattle.ahci_port.specs.PortView.{PortView}
use Rattle.ahci_port.specs.Steps.{IsStepped}
use Rattle.ahci_port.specs.declared.step.DeviceStep.{DeviceStep}
use Rattle.ahci_port.specs.declared.step.DeviceStep.TheVariants.{Accept, Fail}
use Rattle.ahci_port.specs.declared.step.Stepped.{Stepped}
use Rattle.ahci_hba.specs.Failing.{Fails, FailsRequest, fails_at, moved_sectors, own_in, queue_failed, sectors_of}
use Rattle.ahci_hba.specs.HbaView.{HbaView}
use Rattle.ahci_hba.specs.Stepping.{may_fail, may_fail_at, may_serve}
use Rattle.ncq_journal.specs.Request.{request}
use Rattle.ahci_port.specs.Faults.{is_of_request}
use Rattle.ahci_hba.specs.Moving.{answering}
use Rattle.ahci_hba.specs.Powering.{awake}
use Rattle.ahci_hba.specs.Queueing.{IsAccepted, after_acceptance, command_at, has_alone, list_in, only_after}
use Rattle.ahci_hba.specs.declared.ending.Ending.{Ending}

-- an answer of one FIS
pub answered_alone : (h new : HbaView) (p : DmaWritesView) (l m : List Put) (e f : Ending) → new ≡ answering h p e → p ≡ only_after l → l ≡ m → e ≡ f
    → new ≡ answering h (only_after m) f
answered_alone h new p l m e f made posted listed same =
    made ∙ ap (λ x. answering h x e) (posted ∙ ap (λ x. only_after x) listed) ∙ ap (λ x. answering h (only_after m) x) same

pub accepts : (slot tag : ℕ) (alone : Bool) (h mid new : HbaView) (port : PortView) (answer : Stepped) → tag ≡ slot → alone ≡ has_alone (command_at h slot) → IsStepped (Accept tag) h.port port answer
    → mid ≡ after_acceptance slot alone (record h { port = port }) port answer → new ≡ awake mid → IsAccepted slot (has_alone (command_at h slot)) h new
accepts slot tag alone h mid new port answer same e stepped made woken = record {
  port = port;
  answer = answer;
  stepped = subst (λ n. IsStepped (Accept n) h.port port answer) same stepped;
  answered = woken ∙ ap (λ m. awake m) (made ∙ ap (λ b. after_acceptance slot b h port answer) e);
}

-- the port's step for a request that fails
pub fails_request : (slot tag error at : ℕ) (h was : HbaView) (s : DeviceStep) (port : PortView) (answer : Stepped) → tag ≡ slot → h ≡ was → s ≡ Fail tag error at → IsStepped s h.port port answer
    → FailsRequest slot error at was (record h { port = port })
fails_request slot tag error at h was s port answer numbered same is stepped =
    subst (λ v. FailsRequest slot error at v (record h { port = port })) same
    (record { answer = answer; stepped = subst (λ x. IsStepped x h.port port answer) (is ∙ ap (λ n. Fail n error at) numbered) stepped; rest = refl })

-- the port's step for a queued command that fails, and its answer
pub fails : (slot error lba at : ℕ) (q : QueuedFields) (h middle new : HbaView) (list : List PrdEntry) (bytes : List ℕ) (n : ℕ)
    → own_in h slot lba ≡ Some q → at ≡ fails_at q lba → FailsRequest slot error at h middle
    → list ≡ list_in (command_at h slot) → n ≡ moved_sectors h.port q lba → bytes ≡ sectors_of h.port q.lba (moved_sectors h.port q lba)
    → new ≡ queue_failed middle middle.port slot q list bytes n error → Fails slot error lba (own_in h slot lba) h new
fails slot error lba at q h middle new list bytes n is place f listed counted read made =
    subst (λ o. Fails slot error lba o h new) (sym is) (record {
      middle = middle;
      failed = subst (λ x. FailsRequest slot error x h middle) place f;
      answered =
          made
          ∙ ap {A = HbaView} {B = HbaView} (λ v. queue_failed v middle.port slot q list bytes n error) f.rest
          ∙ ap (λ l. queue_failed h middle.port slot q l bytes n error) listed
          ∙ ap (λ b. queue_failed h middle.port slot q (list_in (command_at h slot)) b n error) read
          ∙ ap (λ k. queue_failed h middle.port slot q (list_in (command_at h slot)) (sectors_of h.port q.lba (moved_sectors h.port q lba)) k error) counted;
    })

-- whether it can fail there is whether the request has that sector
pub may_fail_there : (h : HbaView) (slot lba : ℕ) (q : QueuedFields) → may_serve h slot ≡ true → own_in h slot lba ≡ Some q
    → may_fail h slot lba ≡ is_of_request (request h.port.past slot) (fails_at q lba)
may_fail_there h slot lba q ready is = ap (λ b. b && may_fail_at h slot lba (own_in h slot lba)) ready ∙ ap (λ o. may_fail_at h slot lba o) is

pub fails_nowhere : (h : HbaView) (slot lba at : ℕ) (q : QueuedFields) (b : Bool) → may_serve h slot ≡ true → own_in h slot lba ≡ Some q → at ≡ fails_at q lba
    → b ≡ is_of_request (request h.port.past slot) at → may_fail h slot lba ≡ b
fails_nowhere h slot lba at q b ready is place e =
    may_fail_there h slot lba q ready is ∙ sym (e ∙ ap (λ x. is_of_request (request h.port.past slot) x) place)
