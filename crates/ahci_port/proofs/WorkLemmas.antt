-- What a window asks of the disk, by the fields of its command.
use Rattle.std.proofs.Common.{◌≡◌, ℕ, ◌+◌, ◌*◌, Bool, true, false, cond, length, ap, sym, refl, ◌∙◌, ltb, arith}
use Rattle.ahci_table.specs.Command.{op, queued_of}
use Rattle.ahci_table.specs.Text.{text}
use Rattle.ahci_table.specs.Window.{WindowState}
use Rattle.ncq_core.specs.DiskState.{DiskState, disk_sectors}
use Rattle.ncq_journal.specs.Image.{is_write}
use Rattle.ncq_journal.specs.Lawful.{end_of}
use Rattle.ncq_core.specs.Verdict.{is_past_end}
use Rattle.ncq_journal.specs.Work.{Read, Write, lba_of, sectors_of}

-- the text has as many bytes as the command's sectors
abbrev pub IsSized : WindowState → Type 0
IsSized w = length (text w) ≡ 512 * (queued_of w).sectors

pub op_read : (w : WindowState) → (queued_of w).write ≡ false → op w ≡ Read (queued_of w).lba (queued_of w).sectors
op_read w e = ap (λ b. cond b (Write (queued_of w).lba (text w)) (Read (queued_of w).lba (queued_of w).sectors)) e

pub op_write : (w : WindowState) → (queued_of w).write ≡ true → op w ≡ Write (queued_of w).lba (text w)
op_write w e = ap (λ b. cond b (Write (queued_of w).lba (text w)) (Read (queued_of w).lba (queued_of w).sectors)) e

pub op_lba : (w : WindowState) → lba_of (op w) ≡ (queued_of w).lba
op_lba w = by (queued_of w).write
  where
    by : (b : Bool) → lba_of (cond b (Write (queued_of w).lba (text w)) (Read (queued_of w).lba (queued_of w).sectors)) ≡ (queued_of w).lba
    by true = refl
    by false = refl

pub op_direction : (w : WindowState) → is_write (op w) ≡ (queued_of w).write
op_direction w = by (queued_of w).write
  where
    by : (b : Bool) → is_write (cond b (Write (queued_of w).lba (text w)) (Read (queued_of w).lba (queued_of w).sectors)) ≡ b
    by true = refl
    by false = refl

pub op_sectors : (w : WindowState) → IsSized w → sectors_of (op w) ≡ (queued_of w).sectors
op_sectors w sized = by (queued_of w).write
  where
    by : (b : Bool) → sectors_of (cond b (Write (queued_of w).lba (text w)) (Read (queued_of w).lba (queued_of w).sectors)) ≡ (queued_of w).sectors
    by true = omega arith
    by false = refl

pub op_end : (w : WindowState) → IsSized w → end_of (op w) ≡ (queued_of w).lba + (queued_of w).sectors
op_end w sized = let a = op_lba w in let b = op_sectors w sized in omega arith

-- the disk finds the command past its end where the definition does
pub past_end : (disk : DiskState) (s : ℕ) (w : WindowState) → IsSized w → disk_sectors disk ≡ s → is_past_end disk (queued_of w) ≡ ltb s (end_of (op w))
past_end disk s w sized size = ap (λ n. ltb n ((queued_of w).lba + (queued_of w).sectors)) size ∙ ap (ltb s) (sym (op_end w sized))
