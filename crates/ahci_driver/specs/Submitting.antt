-- Why a command is not submitted, and what a seat finds in it.
use Rattle.std.specs.Prelude.{◌≡◌, ℕ, ◌*◌, ◌<◌, true, false, List, [], ◌∷◌, replicate, Option, None, Some}
use Rattle.ahci_port.specs.declared.fault.IssueFault.{IssueFault}
use Rattle.ahci_port.specs.declared.fault.IssueFault.TheVariants as issue
use Rattle.ncq_journal.specs.Work.{Work, Read, Write, sectors_of}
use Rattle.ahci_table.specs.declared.fault.BuildFault.{BuildFault}
use Rattle.ahci_table.specs.declared.fault.BuildFault.TheVariants as build
use Rattle.ahci_table.specs.Defaults.{default_list}
use Rattle.ahci_table.specs.Refusal.{refusal}
use Rattle.tag_board.specs.declared.finding.Finding.{Finding}
use Rattle.tag_board.specs.declared.finding.Finding.TheVariants.{Gave, Tried}
use Rattle.tag_board.specs.Board.{Seated}
use Rattle.tag_board.specs.View.{missed}
use Rattle.word_bits.specs.Places.{has_place, with_place, without_place}
use Rattle.ahci_driver.specs.declared.fault.SubmitFault.{SubmitFault}
use Rattle.ahci_driver.specs.declared.fault.SubmitFault.TheVariants as submit
use Rattle.ahci_driver.specs.Tickets.{TicketView}

-- the buffer that waits for a command's answer: a zero for each byte that is read
abbrev pub buffer_for : Work → List ℕ
buffer_for (Read lba sectors) = replicate (512 * sectors) 0
buffer_for (Write lba bytes) = []

-- why no window is built for a command over the default pieces
abbrev pub default_refusal : Work → Option BuildFault
default_refusal work = refusal work (default_list (sectors_of work))

-- no window was built for this reason; memory may be wanted if nothing else refuses the command
abbrev pub IsNotBuilt : Work → BuildFault → Type 0
IsNotBuilt work build.OutOfMemory = default_refusal work ≡ None
IsNotBuilt work fault = default_refusal work ≡ Some fault

-- a port may refuse a window like this that is fit
abbrev pub MayRefuseFit : IssueFault → Type 0
MayRefuseFit issue.Halted = Unit {0}
MayRefuseFit issue.NoSuchTag = Unit {0}
MayRefuseFit issue.SlotOwned = Unit {0}
MayRefuseFit issue.OutOfMemory = Unit {0}
MayRefuseFit fault = ⊥

-- of the value behind the lock nothing is said
abbrev pub IsNotSubmitted : Work → SubmitFault → Type 0
IsNotSubmitted work submit.NoTag = Unit {0}
IsNotSubmitted work (submit.Build fault) = IsNotBuilt work fault
IsNotSubmitted work (submit.Issue fault) = (default_refusal work ≡ None) × MayRefuseFit fault

-- a log after a tag was claimed: those below it were tried in order and found taken, and it was free
abbrev pub claimed : ℕ → List Finding → List Finding
claimed tag log = Tried tag true ∷ missed tag log

-- a log after a tag was given back
abbrev pub returned : ℕ → List Finding → List Finding
returned tag log = Gave tag ∷ log

-- where there was no tag, each was tried in order and found taken; at any other fault one was claimed, and was given back
abbrev pub HasTried : ℕ → List Finding → List Finding → SubmitFault → Type 0
HasTried depth before after submit.NoTag = after ≡ missed depth before
HasTried depth before after fault = (tag : ℕ) × (tag < depth) × (after ≡ returned tag (claimed tag before))

-- a seat has submitted a command on a board of some depth: its ticket has a tag that the seat has gained, and a buffer
pub record HasSubmitted (depth : ℕ) (work : Work) (old new : Seated) (ticket : TicketView) : Type 0 where
  pub built : default_refusal work ≡ None
  pub buffer : ticket.buffer ≡ buffer_for work
  pub below : ticket.tag < depth
  pub fresh : has_place old.tags ticket.tag ≡ false
  pub gained : new.tags ≡ with_place old.tags ticket.tag
  pub has : has_place new.tags ticket.tag ≡ true
  pub log : new.log ≡ claimed ticket.tag old.log

-- a seat has not submitted a command: it has the tags that it had
pub record HasNotSubmitted (depth : ℕ) (work : Work) (old new : Seated) (fault : SubmitFault) : Type 0 where
  pub kept : new.tags ≡ old.tags
  pub why : IsNotSubmitted work fault
  pub tried : HasTried depth old.log new.log fault

-- a seat has given back the tag of a ticket that it has collected
pub record HasReturned (old new : Seated) (ticket : TicketView) : Type 0 where
  pub tags : new.tags ≡ without_place old.tags ticket.tag
  pub log : new.log ≡ returned ticket.tag old.log
