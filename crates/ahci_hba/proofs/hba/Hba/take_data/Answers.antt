use Rattle.ahci_hba.proofs.ZeroingLemmas.{no_refusal, zeros_taken}
use Rattle.ahci_hba.proofs.hba.Hba.take_data.Goals as goal

pub zero-requires : goal.zero-requires
zero-requires g c =
    no_refusal c.args.self.now.port c.in-Some.range.lba c.in-Some.range.sectors
    (zeros_taken c.args.self.now c.args.store.now c.args.protocol c.requires.answered c.requires.kept c.in-Some.ensures.kind) c.in-Some.ensures.some c.in-Some.ensures.inside
