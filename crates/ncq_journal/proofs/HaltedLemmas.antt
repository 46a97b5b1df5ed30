-- Whether some tag has failed, or is busy.
use Rattle.std.proofs.Common.{◌≡◌, ℕ, ◌<◌, true, false, List}
use Rattle.ncq_journal.specs.Entry.{Entry}
use Rattle.ncq_journal.specs.Halted.{halted, busy}
use Rattle.ncq_journal.specs.Phase.{phase, is_failed, is_busy}
use Rattle.ncq_journal.proofs.TagLemmas.{some_tag, no_tag}

pub halted_at : (past : List Entry) (t : ℕ) → t < 32 → is_failed (phase past t) ≡ true → halted past ≡ true
halted_at past t h e = some_tag (λ tag. is_failed (phase past tag)) t h e

pub not_halted : (past : List Entry) → ((t : ℕ) → t < 32 → is_failed (phase past t) ≡ false) → halted past ≡ false
not_halted past each = no_tag (λ tag. is_failed (phase past tag)) each

pub busy_at : (past : List Entry) (t : ℕ) → t < 32 → is_busy (phase past t) ≡ true → busy past ≡ true
busy_at past t h e = some_tag (λ tag. is_busy (phase past tag)) t h e

pub not_busy : (past : List Entry) → ((t : ℕ) → t < 32 → is_busy (phase past t) ≡ false) → busy past ≡ false
not_busy past each = no_tag (λ tag. is_busy (phase past tag)) each
