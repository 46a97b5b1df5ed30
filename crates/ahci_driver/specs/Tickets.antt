-- A ticket, and when its request is collected.
use Rattle.std.specs.Prelude.{◌≡◌, ℕ, Bool, true, nat_eq, List, length, Option, None, Some, if◌then◌else◌}
use Rattle.ahci_table.specs.Text.{text}
use Rattle.ahci_table.specs.Window.{WindowState}
use Rattle.ncq_journal.specs.declared.outcome.Outcome.{Outcome}
use Rattle.ncq_journal.specs.declared.outcome.Outcome.TheVariants as outcome
use Rattle.ahci_port.specs.declared.fault.CollectFault.{CollectFault}
use Rattle.ahci_port.specs.declared.fault.CollectFault.TheVariants.{Stranger}
use Rattle.ahci_port.specs.Faults.{collect_refusal}
use Rattle.ahci_port.specs.Looking.{read_length}
use Rattle.ahci_port.specs.PortView.{PortView}

-- the tag and the number of a request, and the buffer that waits for its answer
pub record TicketView : Type 0 where
  pub tag : ℕ
  pub number : ℕ
  pub buffer : List ℕ

-- a read has the length of the buffer; where nothing is read, any buffer will do
abbrev pub is_as_long : Option ℕ → ℕ → Bool
is_as_long None n = true
is_as_long (Some len) n = nat_eq len n

-- where a read has finished, the text of its window has this length
abbrev pub has_length : Outcome → WindowState → ℕ → Type 0
has_length outcome.Read w n = length (text w) ≡ n
has_length o w n = Unit {0}

-- how many bytes come with an answer: as many as the buffer has where a read has finished, and none otherwise
abbrev pub answer_length : Outcome → ℕ → ℕ
answer_length outcome.Read n = n
answer_length o n = 0

-- why the request of a ticket is not collected: a read of another length is none of the ticket's
abbrev pub ticket_refusal : PortView → TicketView → Option CollectFault
ticket_refusal port t =
    if is_as_long (read_length port.past t.tag) (length t.buffer) then collect_refusal port t.tag t.number else Some Stranger
