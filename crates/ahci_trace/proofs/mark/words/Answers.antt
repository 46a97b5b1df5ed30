use Rattle.std.proofs.Common.{rules, length, map, Some, ap, ◌∙◌}
use Rattle.ahci_regs.specs.Reading.{word_at}
use Rattle.ahci_regs.specs.declared.register.Register.TheVariants.{Cap}
use Rattle.ahci_trace.proofs.MapLemmas.{mapped}
use Rattle.ahci_trace.proofs.mark.words.Goals as goal

pub returns : goal.returns
returns g c =
    mapped _ (λ register. Some (word_at c.args.port.now.registers register)) _ (λ register word after called. search rules) _ _ Cap 18 (ap length c.all.ensures) c.map.ensures.items
    ∙ ap (map (λ register. Some (word_at c.args.port.now.registers register))) c.all.ensures
