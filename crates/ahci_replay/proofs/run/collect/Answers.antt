use Rattle.std.proofs.Common.{◌≡◌, inr, refl}
use Rattle.ahci_port.specs.Faults.{collect_refusal}
use Rattle.ahci_port.specs.Slots.{bytes_in}
use Rattle.ahci_script.specs.Said.{said}
use Rattle.ahci_script.specs.declared.line.ScriptCommand.TheVariants.{Collect}
use Rattle.ahci_replay.specs.Commands.{RunsOn, outcome_said}
use Rattle.ahci_port.specs.Refusals.{of_collect}
use Rattle.ahci_replay.proofs.SessionLemmas.{collects, if_ok_from, on_err, refused}
use Rattle.ahci_replay.proofs.run.collect.Goals as goal

pub returns-in-Err-clause-ok : goal.returns-in-Err-clause-ok
returns-in-Err-clause-ok g c =
    let a = c.args in
    refused _ c.in-Err.fault (collect_refusal a.port.now a.tag a.number) of_collect c.into.result a.port.now
    c.collect_with_pieces.new.self _ c.in-Err.ensures.fault c.into.ensures c.in-Err.ensures.err

pub returns-in-Ok-clause-ok : goal.returns-in-Ok-clause-ok
returns-in-Ok-clause-ok g c =
    let a = c.args in
    let old = a.port.now in
    let new = c.collect_with_pieces.new.self in
    let reply = c.in-Ok.reply in
    let bytes = bytes_in reply.outcome c.in-Ok.window in
    if_ok_from c.collected.result (λ x. said x ≡ outcome_said reply.outcome reply.entry bytes) (λ x. RunsOn old (Collect a.tag a.number) new (said x)) c.collected.ensures.says
    (λ x. collects _ _ a.tag a.number old new reply.outcome reply.entry bytes (said x) c.in-Ok.ensures.fault c.in-Ok.ensures.reply c.in-Ok.ensures.ok)

pub returns-in-Ok-clause-err : goal.returns-in-Ok-clause-err
returns-in-Ok-clause-err g c =
    let a = c.args in
    let reply = c.in-Ok.reply in
    let bytes = bytes_in reply.outcome c.in-Ok.window in
    let told = outcome_said reply.outcome reply.entry bytes in
    on_err c.collected.result _
    (inr (told, collects _ _ a.tag a.number a.port.now c.collect_with_pieces.new.self reply.outcome reply.entry bytes told c.in-Ok.ensures.fault c.in-Ok.ensures.reply c.in-Ok.ensures.ok refl))
