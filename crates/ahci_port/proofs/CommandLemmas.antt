-- What the disk does with the command of a window.
use Rattle.std.proofs.Common.{◌≡◌, ◌<◌, Bool, true, false, ◌&&◌, ◌||◌, cond, ◌==◌, length, ap, refl, ◌∙◌, None, Some, is_some}
use Rattle.std.proofs.lemmas.Bool.{eq-eqb, lt-leb}
use Rattle.ahci_table.specs.Command.{cfis, h2d, queued_of}
use Rattle.ahci_table.specs.Fit.{IsFit}
use Rattle.ahci_table.specs.Window.{WindowState}
use Rattle.ncq_core.specs.DiskState.{DiskState, command_of}
use Rattle.ncq_core.specs.Verdict.{verdict, accepted, aborted, not_found, command_in, running_verdict, stopped_verdict, by_kind, is_past_end, is_taken_tag, is_h2d}
use Rattle.sata_fis.specs.Command.{queued_in}
use Rattle.sata_fis.specs.Fields.{H2dFields}
use Rattle.sata_fis.specs.Places.{byte}

both_left : (a b : Bool) → (a && b) ≡ true → a ≡ true
both_left true b e = refl
both_left false b e = e

-- C is 1 in a queued command
c_set : (f : H2dFields) (rest : Bool) → ((f.c && (f.command == 0x60 || f.command == 0x61)) && rest) ≡ true → f.c ≡ true
c_set f rest e = both_left f.c (f.command == 0x60 || f.command == 0x61) (both_left (f.c && (f.command == 0x60 || f.command == 0x61)) rest e)

-- the bytes of a fit window carry its command
pub command_there : (w : WindowState) → IsFit w → command_in (cfis w) ≡ Some (h2d w)
command_there w fit =
    ap (λ b. cond (b && (h2d w).c) (Some (h2d w)) None) head ∙ ap (λ b. cond b (Some (h2d w)) None) (c_set (h2d w) _ fit.command.asks)
  where
    head : is_h2d (cfis w) ≡ true
    head =
        let s = fit.command.spells in
        ap (λ b. b && length (cfis w) == 20) (eq-eqb (byte 0 (cfis w)) 0x27 s.0.0) ∙ eq-eqb (length (cfis w)) 20 s.0.1

-- which is the queued command
queued_there : (w : WindowState) → IsFit w → queued_in (h2d w) ≡ Some (queued_of w)
queued_there w fit = ap (λ b. cond b (Some (queued_of w)) None) fit.command.asks

free_there : (disk : DiskState) (w : WindowState) → IsFit w → w.tag < disk.depth → command_of disk w.tag ≡ None → is_taken_tag disk (queued_of w).tag ≡ false
free_there disk w fit below vacant =
    ap (is_taken_tag disk) fit.tag ∙ ap (λ b. b || is_some (command_of disk w.tag)) (lt-leb disk.depth w.tag below) ∙ ap is_some vacant

-- a queued command of a tag that is free in the disk: it is accepted where it fits
pub verdict_of : (disk : DiskState) (w : WindowState) → IsFit w → disk.error ≡ None → w.tag < disk.depth → command_of disk w.tag ≡ None
    → verdict disk (cfis w) ≡ cond (is_past_end disk (queued_of w)) (not_found disk (queued_of w)) (accepted disk (queued_of w))
verdict_of disk w fit calm below vacant =
    ap (λ o. cond (is_some o) (stopped_verdict disk (command_in (cfis w))) (running_verdict disk (command_in (cfis w)))) calm
    ∙ ap (running_verdict disk) (command_there w fit)
    ∙ ap (by_kind disk (h2d w)) (queued_there w fit)
    ∙ ap (λ b. cond b (aborted disk) (cond (is_past_end disk (queued_of w)) (not_found disk (queued_of w)) (accepted disk (queued_of w)))) (free_there disk w fit below vacant)
