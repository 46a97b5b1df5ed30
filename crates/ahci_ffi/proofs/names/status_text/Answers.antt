use Rattle.std.proofs.Common.{subst, ◌∙◌}
use Rattle.ahci_ffi.specs.Names.{AnswersName, is_named}
use Rattle.ahci_ffi.proofs.names.status_text.Goals as goal

pub returns-in-Some : goal.returns-in-Some
returns-in-Some c =
    is_named c.in-Some.status c.in-Some.ensures
    (subst (λ name. AnswersName name c.put_name.result c.args.out.now c.put_name.new.out c.args.len.now c.put_name.new.len) (c.as_bytes.ensures.value ∙ c.name.ensures) c.put_name.ensures)
