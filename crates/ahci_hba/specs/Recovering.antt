-- How a driver reads the log of a failed queued command (AHCI 1.3.1, section 6.2.2; ACS-3, "NCQ Command Error log").
use Rattle.std.specs.Prelude.{◌≡◌, ℕ, ◌^◌, Bool, not, ◌&&◌, nat_lt, List, Option, None, Some, IsSomeAnd, if◌then◌else◌}
use Rattle.ncq_core.specs.Log.{log_page}
use Rattle.hba_command.specs.Pages.{not_queued_page}
use Rattle.hba_command.specs.declared.entry.PrdEntry.{PrdEntry}
use Rattle.hba_command.specs.declared.log.Log.TheVariants.{QueuedError}
use Rattle.hba_command.specs.declared.protocol.Protocol.{Protocol}
use Rattle.hba_command.specs.Action.{action_of}
use Rattle.hba_command.specs.declared.action.Action.{Action}
use Rattle.hba_command.specs.declared.action.Action.TheVariants.{Page}
use Rattle.hba_command.specs.declared.page.Page.TheVariants.{Log}
use Rattle.ncq_journal.specs.History.{History}
use Rattle.ncq_journal.specs.declared.outcome.Outcome.{Outcome}
use Rattle.ncq_journal.specs.declared.outcome.Outcome.TheVariants.{Failed}
use Rattle.ahci_port.specs.PortView.{PortView, owner_of}
use Rattle.ahci_port.specs.Steps.{IsCollected, IsRecovered, answer_to}
use Rattle.ahci_port.specs.declared.reply.Reply.{Reply}
use Rattle.ahci_hba.specs.Dropping.{handed_out, is_spent, port_after}
use Rattle.ahci_hba.specs.Executing.{paged}
use Rattle.ahci_hba.specs.HbaView.{CommandView, Fetched, HbaView}
use Rattle.ahci_hba.specs.Queueing.{command_at, list_in}

-- the command of a slot reads that log
abbrev pub error_log_of : Action → Option Protocol
error_log_of (Page (Log QueuedError) p) = Some p
error_log_of other = None

abbrev pub error_log_in : Option CommandView → Option Protocol
error_log_in (Some (Fetched t list bytes)) = error_log_of (action_of t)
error_log_in other = None

-- the page of the failed command: tag, error and LBA
abbrev pub is_page : ℕ → ℕ → Bool
is_page tag lba = nat_lt tag 32 && nat_lt lba (2 ^ 48)

abbrev pub error_page : ℕ → Outcome → List ℕ
error_page tag (Failed error lba) = if is_page tag lba then log_page (record { tag = tag; error = error; lba = lba }) else not_queued_page
error_page tag other = not_queued_page

-- the port recovers, and the failed request of a tag is collected
pub record CollectsFailed (tag : ℕ) (reply : Reply) (old new : PortView) : Type 0 where
  pub number : ℕ
  pub middle : PortView
  pub recovered : IsRecovered tag old middle
  pub owner : owner_of middle tag ≡ Some number
  pub collected : IsCollected tag middle new
  pub answered : IsSomeAnd (answer_to middle number) (λ a. a.outcome ≡ reply.outcome)

-- the port recovers, the failed request is collected, what was held is dropped, and the page goes to the driver
pub record Recovers (slot : ℕ) (p : Protocol) (list : List PrdEntry) (old new : HbaView) (journal : Option History) : Type 0 where
  pub tag : ℕ
  pub number : ℕ
  pub middle : PortView
  pub port : PortView
  pub recovered : IsRecovered tag old.port middle
  pub owner : owner_of middle tag ≡ Some number
  pub collected : IsCollected tag middle port
  pub answered : IsSomeAnd (answer_to middle number) (λ a.
      new ≡ paged (record old { port = port_after (not (is_spent port)) port }) slot p list (error_page tag a.outcome))
  pub handed : journal ≡ handed_out (not (is_spent port)) port

abbrev pub ReadsErrorLog : ℕ → HbaView → HbaView → Option History → Type 0
ReadsErrorLog slot old new journal =
    IsSomeAnd (error_log_in (command_at old slot)) (λ p. Recovers slot p (list_in (command_at old slot)) old new journal)
