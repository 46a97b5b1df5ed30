use Rattle.std.proofs.Common.{refl, arith}
use Rattle.ahci_driver.proofs.LeavingLemmas.{all_free}
use Rattle.ahci_driver.proofs.left.is_all_free.Goals as goal

pub returns : goal.returns
returns g c = (
  λ held. all_free c.args.port.now c.keeps_its_promise.ensures.headline c.keeps_its_promise.ensures.shape (λ tag low. c.loop-tag.invariant tag (omega arith)),
  λ all. refl,
)
