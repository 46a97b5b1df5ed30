use Rattle.streams.proofs.FoundLemmas.{on_ok_from}
use Rattle.word_bits.specs.Places.{bits}
use Rattle.ahci_trace.specs.Json.{bit_value}
use Rattle.ahci_trace.proofs.NameLemmas.{each_bit}
use Rattle.ahci_trace.proofs.TextLemmas.{four_parts, part_is}
use Rattle.ahci_trace.proofs.as_json.tokens.Tokens.put_bits.Goals as goal

pub returns : goal.returns
returns g c =
    let each = each_bit (bit_value (bits c.args.change.word)) c.bits_of.result.now _ c.bits_of.ensures in
    on_ok_from c.add-3.result _ _ c.add-3.ensures
    (λ last. four_parts c.args.self.now _ _ _ _ _ _ _ _ c.in_ok-add.ensures c.in_ok-add-2.ensures (part_is _ c.in_ok-put_each_bit.ensures each) last)
