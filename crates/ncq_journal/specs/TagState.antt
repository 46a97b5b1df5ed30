-- For proofs: what one pass over a journal knows of each tag.
use Rattle.std.specs.Prelude.{◌≡◌, ℕ, ◌<◌, ◌==◌, Bool, List, [], length, slice_index_or, Option, Some, if◌then◌else◌}
use Rattle.std.specs.Option.{option_map}
use Rattle.ncq_journal.specs.Entry.{Entry, Issue}
use Rattle.ncq_journal.specs.Phase.{is_busy, is_failed, phase, phase_after}
use Rattle.ncq_journal.specs.Request.{request}
use Rattle.ncq_journal.specs.Work.{Work, lba_of, sectors_of}
use Rattle.ncq_journal.specs.declared.tag_state.Span.{Span}
use Rattle.ncq_journal.specs.declared.tag_state.TagState.{TagState}

-- the sectors of a command
abbrev pub span_of : Work → Span
span_of work = record { lba = lba_of work; sectors = sectors_of work }

-- the phase of a tag, and the sectors of the command that it was last issued for
abbrev pub state_of : List Entry → ℕ → TagState
state_of past tag = record { phase = phase past tag; span = option_map (λ r. span_of r.work) (request past tag) }

-- the same after one more entry
abbrev pub span_after : ℕ → Option Span → Entry → Option Span
span_after tag before (Issue t work) = if t == tag then Some (span_of work) else before
span_after tag before entry = before

abbrev pub state_after : ℕ → TagState → Entry → TagState
state_after tag before entry = record { phase = phase_after tag before.phase entry; span = span_after tag before.span entry }

-- the tag's command has failed
abbrev pub has_failed : TagState → Bool
has_failed state = is_failed state.phase

-- it waits for the device or is outstanding in it
abbrev pub is_waiting : TagState → Bool
is_waiting state = is_busy state.phase

-- before the first entry
abbrev pub no_state : TagState
no_state = state_of [] 0

-- these are the states of the 32 tags after a journal
pub record AreStates (past : List Entry) (tags : List TagState) : Type 0 where
  pub long : length tags ≡ 32
  pub each : (tag : ℕ) → tag < 32 → slice_index_or tags tag no_state ≡ state_of past tag
