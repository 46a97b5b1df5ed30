use Rattle.std.proofs.Common.{refl, subst}
use Rattle.ahci_ffi.specs.Alone.{AnswersWindowCheck, lacks_memory}
use Rattle.ahci_ffi.proofs.ArgumentLemmas.{on_sized, on_unsized, window_named}
use Rattle.ahci_ffi.proofs.windows.window_check.Goals as goal

pub returns-in-Ok-window_over : goal.returns-in-Ok-window_over
returns-in-Ok-window_over g c =
    let s = c.in-Ok.ensures.ok in
    on_sized _ _ _ _ s.0
    (subst (λ w. AnswersWindowCheck w c.look.result c.args.command.now c.look.new.command)
    (window_named _ _ _ _ _ _ c.in-Ok-window_over.ensures s.2 s.3) c.look.ensures)

pub returns-in-Err-window_over : goal.returns-in-Err-window_over
returns-in-Err-window_over g c = on_sized _ _ _ _ c.in-Ok.ensures.ok.0 (lacks_memory c.into.ensures refl)

pub returns-in-Err : goal.returns-in-Err
returns-in-Err g c = on_unsized _ _ _ _ _ c.in-Err.ensures.refused refl refl
