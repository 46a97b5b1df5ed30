-- What a write that drops commands leaves.
use Rattle.std.proofs.Common.{◌≡◌, true, not, ◌&&◌, Option, refl, ap, sym, ◌∙◌}
use Rattle.hba_regs.specs.HbaState.{HbaState}
use Rattle.hba_regs.specs.Writing.{Written}
use Rattle.hba_regs.specs.declared.consequence.Consequence.{Consequence}
use Rattle.hba_regs.specs.declared.consequence.Consequence.TheVariants.{Nothing, Stopped, LinkReset, Reset}
use Rattle.ncq_journal.specs.History.{History}
use Rattle.ahci_port.specs.PortView.{PortView}
use Rattle.ahci_hba.specs.HbaView.{HbaView}
use Rattle.ahci_hba.specs.Keeping.{device_after, keeping}
use Rattle.ahci_hba.specs.Powering.{in_mode, power_after}
use Rattle.ahci_hba.specs.Dropping.{after_write, drops_requests, emptied, handed_out, is_reset, is_spent, journal_out, port_after, written}

-- requests are dropped, so the port is reset unless its numbers are used up
pub resets : (consequence : Consequence) (h : HbaView) (p : PortView) → drops_requests consequence h ≡ true → p ≡ port_after (not (is_spent h.port)) h.port
    → ◌≡◌ {A = HbaView} (record h { port = p }) (record h { port = port_after (is_reset consequence h) h.port })
resets consequence h p drops made =
    ap {A = PortView} {B = HbaView} (λ x. record h { port = x }) (made ∙ ap (λ b. port_after (b && not (is_spent h.port)) h.port) (sym drops))

-- the registers don't matter for that
empties : (consequence : Consequence) (h : HbaView) (r : HbaState) → (consequence ≡ Nothing → ⊥)
    → emptied
    (record h { registers = r; port = port_after (is_reset consequence (record h { registers = r })) h.port; power = power_after consequence h.power; device = device_after consequence h.device })
    ≡ after_write consequence h r
empties Nothing h r some = absurd (some refl)
empties Stopped h r some = refl
empties LinkReset h r some = refl
empties Reset h r some = refl

same_reset : (consequence : Consequence) (h : HbaView) (r : HbaState) → is_reset consequence (record h { registers = r }) ≡ is_reset consequence h
same_reset Nothing h r = refl
same_reset Stopped h r = refl
same_reset LinkReset h r = refl
same_reset Reset h r = refl

pub writes : (h mid settled kept new : HbaView) (w : Written) (consequence : Consequence) (r : HbaState) → consequence ≡ w.consequence → r ≡ w.state → (consequence ≡ Nothing → ⊥)
    → mid ≡ record h { registers = r; port = port_after (is_reset consequence (record h { registers = r })) h.port } → settled ≡ in_mode mid (power_after consequence mid.power)
    → kept ≡ keeping settled (device_after consequence settled.device) → new ≡ emptied kept → new ≡ written h w
writes h mid settled kept new w consequence r e s some reset turned changed made =
    made
    ∙ ap (λ m. emptied m) changed
    ∙ ap {A = HbaView} {B = HbaView} (λ m. emptied (keeping m (device_after consequence m.device))) (turned ∙ ap (λ m. in_mode m (power_after consequence m.power)) reset)
    ∙ empties consequence h r some ∙ ap (λ c. after_write c h r) e ∙ ap (λ x. after_write w.consequence h x) s

pub hands_out : (h : HbaView) (w : Written) (consequence : Consequence) (r : HbaState) (j : Option History) → consequence ≡ w.consequence
    → j ≡ handed_out (is_reset consequence (record h { registers = r })) h.port → j ≡ journal_out h w
hands_out h w consequence r j e made =
    made ∙ ap (λ b. handed_out b h.port) (same_reset consequence h r) ∙ ap (λ c. handed_out (is_reset c h) h.port) e
