use Rattle.std.proofs.Common.{◌≡◌, ◌∙◌, refl, subst, sym}
use Rattle.std.specs.Prelude.{IfErr}
use Rattle.ahci_driver.specs.Finishing.{HasGotOn, at_once, one_more}
use Rattle.ahci_driver.specs.Tickets.{ticket_refusal}
use Rattle.ahci_driver.proofs.FinishingLemmas.{came_back}
use Rattle.ahci_driver.proofs.finish.finish_locked.Goals as goal

pub loop-init : goal.loop-init
loop-init g c = record { got_on = at_once c.args.chooser.now c.args.port.now; same = refl }

pub loop-preserved : goal.loop-preserved
loop-preserved g c = record {
  got_on = one_more c.args.chooser.now c.loop.chooser c.pump_locked.new.chooser c.args.port.now c.take_locked.new.port c.pump_locked.new.port c.in-Ok-pump_locked.field-0
      (subst (λ port. HasGotOn g.C.Chooser.gives c.args.chooser.now c.loop.chooser c.args.port.now port) (sym c.in-Err-default-NotYet.ensures.err) c.loop.invariant.got_on)
      c.in-Ok-pump_locked.ensures.ok c.in-Ok-pump_locked.ensures.asked;
  same = subst (λ r. IfErr r (λ e. e.0 ≡ c.loop.ticket)) c.in-Err-default-NotYet.is
      (came_back (ticket_refusal c.loop.port c.loop.ticket) c.take_locked.result (λ e. e.0 ≡ c.loop.ticket) (λ f e. e.1 ≡ f) c.take_locked.ensures.fault) ∙ c.loop.invariant.same;
}
