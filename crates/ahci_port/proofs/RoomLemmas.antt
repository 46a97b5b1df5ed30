-- The room of a call that may ask for memory, by what the journal says of its reservation and of its push.
use Rattle.std.proofs.Common.{◌≡◌, ℕ, ◌+◌, ◌≤◌, max, length, subst, sym, ◌∙◌}
use Rattle.ahci_port.specs.PortView.{PortView}
use Rattle.ahci_port.specs.Steps.{ReservesRoom, call_room}

pub reserves_room : (old new : PortView) (room held : ℕ) → room ≡ max old.room call_room → (length old.past + call_room ≤ old.held → held ≡ old.held) → old.held ≤ held
    → new.room + 1 ≡ room → new.held ≡ held → ReservesRoom old new
reserves_room old new room held reserved same more pushed kept = record {
  room_is = pushed ∙ reserved;
  held_same = λ enough. kept ∙ same enough;
  held_more = subst (λ n. old.held ≤ n) (sym kept) more;
}
