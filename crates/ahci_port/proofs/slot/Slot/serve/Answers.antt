use Rattle.std.proofs.Common.{◌≡◌, ◌≤◌, length, ap, sym, subst, arith}
use Rattle.std.specs.Prelude.{IfSome}
use Rattle.ahci_table.specs.Text.{text}
use Rattle.ncq_core.specs.Serving.{byte_count}
use Rattle.ahci_port.proofs.MemoryLemmas.{fit_sized}
use Rattle.ahci_port.proofs.slot.Slot.serve.Goals as goal

pub serve-requires-clause-room : goal.serve-requires-clause-room
serve-requires-clause-room g c =
    let sized = fit_sized c.args.self.now.window c.requires.fit in
    let same : length (text c.self.inside.memory.window) ≡ length (text c.args.self.now.window) = ap (λ s. length (text s.window)) c.self.view_is in
    subst (λ o. IfSome o (λ q. byte_count q ≤ length (text c.self.inside.memory.window))) (sym c.requires.there) (omega arith)
