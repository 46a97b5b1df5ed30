-- The registers take the write, the port is reset, and the slots are emptied.
use Rattle.std.proofs.Common.{◌≡◌, subst}
use Rattle.hba_regs.specs.Accessing.{write_of}
use Rattle.ahci_hba.specs.Dropping.{journal_out, written}
use Rattle.ahci_hba.proofs.DroppingLemmas.{hands_out, writes}
use Rattle.ahci_hba.proofs.hba.Hba.write.Goals as goal

pub returns : goal.returns
returns g c = record {
  state =
      subst (λ v. c.empty.new.self ≡ written v (write_of v.registers c.args.offset c.args.size c.args.value)) c.self.view_is
      (writes _ c.reset_port-journal.new.self c.settle_power.new.self c.settle_device.new.self _ _ c.write-consequence.result c.write-consequence.new.self
      c.write-consequence.ensures.consequence c.write-consequence.ensures.state (λ e. c.in_default.not-Nothing e) c.reset_port-journal.ensures.port
      c.settle_power.ensures c.settle_device.ensures c.empty.ensures);
  journal =
      subst (λ v. c.reset_port-journal.result ≡ journal_out v (write_of v.registers c.args.offset c.args.size c.args.value)) c.self.view_is
      (hands_out _ (write_of c.self.inside.registers c.args.offset c.args.size c.args.value) c.write-consequence.result c.write-consequence.new.self _
      c.write-consequence.ensures.consequence c.reset_port-journal.ensures.journal);
}
