-- What the next steps of all slots have in common, while the controller listens to its command list (AHCI 1.3.1, sections 3.3.7, CCS, and 5.3.2).
use Rattle.std.specs.Prelude.{◌≡◌, ◌<◌, ℕ, Bool, true, false, min, nat_le, nat_lt, ◌&&◌, Option, None, Some, is_some}
use Rattle.std.specs.List.{list_any, range_with_len}
use Rattle.ncq_journal.specs.declared.phase.Phase.{Phase}
use Rattle.ncq_journal.specs.declared.phase.Phase.TheVariants.{Accepted, Issued}
use Rattle.ahci_hba.specs.HbaView.{HbaView, DmaView, Pio, Served}
use Rattle.ahci_hba.specs.Queueing.{distance_of, has_queued, is_before, is_listening, is_ready, may_fetch, waits}
use Rattle.ahci_hba.specs.declared.outlook.Outlook.{Outlook}
use Rattle.ahci_hba.specs.declared.step.Step.{Step}
use Rattle.ahci_hba.specs.declared.step.Step.TheVariants as step

-- the smaller of two distances, of which the first need not be there
abbrev pub nearer : Option ℕ → ℕ → ℕ
nearer None distance = distance
nearer (Some nearest) distance = min nearest distance

-- a slot at a distance comes behind the nearest one
abbrev pub comes_behind : (nearest : Option ℕ) → ℕ → Bool
comes_behind None distance = false
comes_behind (Some nearest) distance = nat_lt nearest distance

-- or does not, while there is one
abbrev pub is_within : (reach : Option ℕ) → ℕ → Bool
is_within None distance = false
is_within (Some reach) distance = nat_le distance reach

-- of the slots below n that wait, the nearest one is at this distance behind the slot with the highest priority
pub record IsNearest (h : HbaView) (n : ℕ) (nearest : Option ℕ) : Type 0 where
  pub some : list_any (waits h) (range_with_len 0 n) ≡ is_some nearest
  pub behind : (slot : ℕ) → list_any (is_before h slot) (range_with_len 0 n) ≡ comes_behind nearest (distance_of h.registers.port slot)

-- a slot's command may be read if it waits and is no farther
abbrev pub Reaches : HbaView → Option ℕ → Type 0
Reaches h reach = (slot : ℕ) → slot < 32 → may_fetch h slot ≡ (waits h slot && is_within reach (distance_of h.registers.port slot))

pub record IsOutlook (h : HbaView) (o : Outlook) : Type 0 where
  pub listening : is_listening h ≡ true
  pub ready : o.ready ≡ is_ready h
  pub queueing : o.queueing ≡ list_any has_queued h.slots
  pub reach : Reaches h o.reach

-- the slot that the port has done a command for, or whose transfer by PIO goes on
abbrev pub delivering : DmaView → Option ℕ
delivering (Served slot t window list) = Some slot
delivering (Pio t) = Some t.slot
delivering other = None

-- the next step with a command that is with the port, by its phase, while nothing has failed
abbrev pub step_in : Phase → Option Step
step_in Issued = Some step.Accept
step_in Accepted = Some step.Serve
step_in other = None
