-- A number below 32 is a slot.
use Rattle.std.proofs.Common.{subst, sym, ◌∙◌}
use Rattle.ahci_ffi.specs.declared.status.Status.TheVariants as status
use Rattle.port_refusal.specs.declared.refusal.Refusal.TheVariants as refusal
use Rattle.hba_ffi.specs.Calls.{AnswersStep}
use Rattle.hba_ffi.proofs.SteppingLemmas.{is_not_ready, lacks, slot_is, takes}
use Rattle.hba_ffi.proofs.steps.step.Goals as goal

pub returns-in-Ok : goal.returns-in-Ok
returns-in-Ok g c =
    let s = slot_is c.args.slot c.in-Some.slot (sym c.of.ensures ∙ c.in-Some.is) in
    subst (λ n. AnswersStep n status.Done c.args.hba.now c.step.new.self c.args.entries.now c.entries_in.result) s.1
    (takes c.in-Some.slot c.args.hba.now c.step.new.self c.args.entries.now c.entries_in.result c.in-Ok.journal s.0 c.in-Ok.ensures.ok c.entries_in.ensures)

pub returns-in-Err-NotReady : goal.returns-in-Err-NotReady
returns-in-Err-NotReady g c =
    let s = slot_is c.args.slot c.in-Some.slot (sym c.of.ensures ∙ c.in-Some.is) in
    subst (λ n. AnswersStep n status.NotReady c.args.hba.now c.step.new.self c.args.entries.now c.args.entries.now) s.1
    (is_not_ready c.in-Some.slot c.args.hba.now c.step.new.self c.args.entries.now s.0 (sym c.in-Err-NotReady.field-0-is ∙ c.in-Err-NotReady.ensures.err.0) c.in-Err-NotReady.ensures.err.1)

pub returns-in-Err-OutOfMemory : goal.returns-in-Err-OutOfMemory
returns-in-Err-OutOfMemory g c =
    let s = slot_is c.args.slot c.in-Some.slot (sym c.of.ensures ∙ c.in-Some.is) in
    subst (λ n. AnswersStep n (status.Refused refusal.OutOfMemory) c.args.hba.now c.step.new.self c.args.entries.now c.args.entries.now) s.1
    (lacks c.in-Some.slot c.args.hba.now c.step.new.self c.args.entries.now s.0 (sym c.in-Err-OutOfMemory.field-0-is ∙ c.in-Err-OutOfMemory.ensures.err.0) c.in-Err-OutOfMemory.ensures.err.1)
