use Rattle.std.proofs.Common.{rules}
use Rattle.ahci_replay.specs.declared.script_fault.ScriptFault.TheVariants.{Line}
use Rattle.ahci_replay.proofs.LineLemmas.{fault_of_line, ran_grown, skip_grown, wrong_line}
use Rattle.ahci_replay.proofs.lines.answer_line.Goals as goal

pub returns-in-Ok-Skip-clause-ok : goal.returns-in-Ok-Skip-clause-ok
returns-in-Ok-Skip-clause-ok g c = skip_grown c.args.number c.args.session.now c.args.line.now c.args.output.now (search rules)

pub returns-in-Ok-Run-clause-ok : goal.returns-in-Ok-Run-clause-ok
returns-in-Ok-Run-clause-ok g c =
    ran_grown g.T.AnswerWriter.telling c.args.number c.answer_command.result (Line c.args.number) c.args.session.now c.answer_command.new.session c.args.line.now c.args.output.now c.answer_command.new.output
    c.in-Ok-Run.command
    (search rules) c.answer_command.ensures.wrong c.answer_command.ensures.ok

pub returns-in-Ok-Run-clause-fault : goal.returns-in-Ok-Run-clause-fault
returns-in-Ok-Run-clause-fault g c =
    fault_of_line c.answer_command.result c.args.session.now c.args.line.now c.in-Ok-Run.command c.args.number (search rules) c.answer_command.ensures.fault

pub returns-in-Ok-Run-clause-wrong : goal.returns-in-Ok-Run-clause-wrong
returns-in-Ok-Run-clause-wrong g c =
    wrong_line c.answer_command.result (Line c.args.number) c.args.session.now c.args.line.now c.in-Ok-Run.command (search rules) c.answer_command.ensures.wrong
