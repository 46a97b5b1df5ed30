-- How the reads and writes of a trace as JSON went, from those of its script and of its end.
use Rattle.std.proofs.Common.{◌≡◌, ◌∙◌, ℕ, List, Option, ap, subst, sym}
use Rattle.streams.specs.Ends.{ReadSoFar, WrittenSoFar, with_flush}
use Rattle.ahci_replay.specs.Transcript.{ReadsBefore, ReadsTo, WritesTo}
use Rattle.ahci_replay.specs.declared.script_fault.ScriptFault.{ScriptFault}
use Rattle.ahci_replay.specs.declared.script_fault.ScriptFault.TheVariants as fault
use Rattle.ahci_trace.specs.Closing.{CloseWrites, Closes, TellWrites}

-- the writes of the script, and then those of its end
module _ (old mid new : WrittenSoFar) where
  -- no write of the script failed
  told : (g : ScriptFault) → mid ≡ with_flush old → TellWrites mid new g → WritesTo old new g
  told (fault.Line n) flushed end = end ∙ ap with_flush flushed
  told fault.Read flushed end = end ∙ ap with_flush flushed
  told fault.Write flushed end = ap (λ w. w.failed) end
  told fault.OutOfMemory flushed end = end ∙ flushed

  pub closed_writes : (before after : Option (List ℕ)) (f g : ScriptFault) → WritesTo old mid f → Closes f before after g → CloseWrites f mid new g → WritesTo old new g
  closed_writes before after (fault.Line n) g script closes end = told g script end
  closed_writes before after fault.Read g script closes end = told g script end
  closed_writes before after fault.Write g script closes end = subst (WritesTo old new) (sym closes.0) (ap (λ w. w.failed) end ∙ script)
  closed_writes before after fault.OutOfMemory g script closes end = subst (WritesTo old new) (sym closes.0) (end ∙ script)

-- the reads of the script, which are all
module _ (old new : ReadSoFar) where
  pub closed_reads : (before after : Option (List ℕ)) (f g : ScriptFault) → ReadsTo old new f → Closes f before after g → ReadsBefore old new g
  closed_reads before after f fault.Write reads closes = tt
  closed_reads before after f fault.OutOfMemory reads closes = tt
  closed_reads before after (fault.Line n) (fault.Line m) reads closes = reads
  closed_reads before after (fault.Line n) fault.Read reads closes = absurd (cc)
  closed_reads before after fault.Read (fault.Line m) reads closes = absurd (cc)
  closed_reads before after fault.Read fault.Read reads closes = reads
  closed_reads before after fault.Write (fault.Line m) reads closes = absurd (cc)
  closed_reads before after fault.Write fault.Read reads closes = absurd (cc)
  closed_reads before after fault.OutOfMemory (fault.Line m) reads closes = absurd (cc)
  closed_reads before after fault.OutOfMemory fault.Read reads closes = absurd (cc)
