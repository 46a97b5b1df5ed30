-- What holds of a port between its calls: the main theorem.
use Rattle.std.specs.Prelude.{◌≡◌, ◌≢◌, ℕ, true, List, Option, None, Some, IsSomeAnd}
use Rattle.ahci_table.specs.Command.{op}
use Rattle.ahci_table.specs.Fit.{IsFit}
use Rattle.ahci_table.specs.Text.{text}
use Rattle.ahci_table.specs.Window.{WindowState}
use Rattle.ncq_journal.specs.declared.outcome.Outcome.{Outcome}
use Rattle.ncq_journal.specs.declared.outcome.Outcome.TheVariants as outcome
use Rattle.ncq_journal.specs.declared.phase.Phase.TheVariants.{Free, Done}
use Rattle.ncq_journal.specs.Answer.{answer}
use Rattle.ncq_journal.specs.Entry.{Entry}
use Rattle.ncq_journal.specs.Image.{sector_at}
use Rattle.ncq_journal.specs.Lawful.{IsLawful}
use Rattle.ncq_journal.specs.Phase.{phase}
use Rattle.ncq_journal.specs.Request.{Request, request}
use Rattle.ncq_journal.specs.Sector.{sector}
use Rattle.ncq_journal.specs.Tags.{sact, ci, device_tags}
use Rattle.ahci_port.specs.PortView.{PortView, sectors_in, window_at}
use Rattle.ahci_port.specs.Standing.{standing}

-- a finished read's window holds its answer's bytes
abbrev pub HoldsBytes : Outcome → List ℕ → WindowState → Type 0
HoldsBytes outcome.Read bytes w = text w ≡ bytes
HoldsBytes o bytes w = Unit {0}

-- the window is that of the request: it carries the command that was issued, and once the request is done, its data
pub record IsOfRequest (starting : List ℕ) (past : List Entry) (tag : ℕ) (w : WindowState) (r : Request) : Type 0 where
  pub work : op w ≡ r.work
  pub done : phase past tag ≡ Done → IsSomeAnd (answer starting past r.number) (λ a. HoldsBytes a.outcome a.bytes w)

-- a free slot has no window; an owned one has a window that is fit, for the one request that owns it
abbrev pub HasWindow : List ℕ → List Entry → ℕ → Option WindowState → Type 0
HasWindow starting past tag None = phase past tag ≡ Free
HasWindow starting past tag (Some w) =
    (phase past tag ≢ Free) × IsFit w × (w.tag ≡ tag) × IsSomeAnd (request past tag) (IsOfRequest starting past tag w)

pub record Headline (port : PortView) : Type 0 where
  -- every entry was allowed: each slot is free or owned by one request
  pub lawful : IsLawful (sectors_in port) port.depth port.past
  pub owned : (tag : ℕ) → HasWindow port.starting port.past tag (window_at port tag)
  -- the port is started, and PxSACT, PxCI and the device's tags are those of the journal
  pub st : port.registers.st ≡ true
  pub fre : port.registers.fre ≡ true
  pub sact_is : port.registers.sact ≡ sact port.past
  pub ci_is : port.registers.ci ≡ ci port.past
  pub device_is : port.device ≡ device_tags port.past
  pub error_is : port.error ≡ standing port.past
  -- the image is the starting image with the journal's completed writes applied in order
  pub sectors : (s : ℕ) → sector_at port.image s ≡ sector port.starting port.past s
