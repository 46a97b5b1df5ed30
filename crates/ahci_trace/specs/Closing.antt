-- How a trace as JSON ends at a fault: after the objects of the lines before it comes an object that reports the fault.
use Rattle.std.specs.Prelude.{◌≡◌, ℕ, List, [], ◌∷◌, ◌++◌, codes, Option, ⊤}
use Rattle.std.specs.Io.KnownBytes.{Appends}
use Rattle.streams.specs.Ends.{WrittenSoFar, with_failed_write, with_flush}
use Rattle.ahci_replay.specs.Transcript.{ReplayedTo, WritesPart}
use Rattle.ahci_replay.specs.declared.script_fault.ScriptFault.{ScriptFault}
use Rattle.ahci_replay.specs.declared.script_fault.ScriptFault.TheVariants as fault
use Rattle.json.specs.Print.{print}
use Rattle.json.specs.Token.{Token}
use Rattle.ahci_trace.specs.Json.{json_line, number_member, object, text_member}

-- what a fault is
abbrev pub fault_word : ScriptFault → List ℕ
fault_word (fault.Line n) = codes "not understood"
fault_word fault.Read = codes "input failed"
fault_word fault.Write = codes "output failed"
fault_word fault.OutOfMemory = codes "out of memory"

-- the line of a fault, where it has one
abbrev pub line_member : ScriptFault → List Token
line_member (fault.Line n) = number_member (codes "line") n
line_member f = []

-- a fault
unfoldable pub fault_object : ScriptFault → List Token
fault_object f = object (text_member (codes "fault") (fault_word f) ++ line_member f)

-- the text of it: one object, on a line
abbrev pub fault_line : ScriptFault → List ℕ
fault_line f = print (fault_object f) ++ 10 ∷ []

-- one that is reported: output and memory are not what is wanting
abbrev pub IsTold : ScriptFault → Type 0
IsTold fault.Write = ⊥
IsTold fault.OutOfMemory = ⊥
IsTold f = ⊤

-- a fault is reported, or there is no memory for that, or its write fails
abbrev pub TellsFault : ScriptFault → Option (List ℕ) → Option (List ℕ) → ScriptFault → Type 0
TellsFault f before after fault.OutOfMemory = after ≡ before
TellsFault f before after fault.Write = WritesPart before after (fault_line f)
TellsFault f before after g = (g ≡ f) × Appends before after (fault_line f)

-- how its writes went: it was flushed; or a write or a flush failed, and that is the fault; or none was tried, for want of memory
abbrev pub TellWrites : WrittenSoFar → WrittenSoFar → ScriptFault → Type 0
TellWrites old new fault.OutOfMemory = new ≡ old
TellWrites old new fault.Write = new ≡ with_failed_write old
TellWrites old new g = new ≡ with_flush old

-- the end after a fault, and how the trace ends then: where output or memory is wanting, nothing more is reported
abbrev pub Closes : ScriptFault → Option (List ℕ) → Option (List ℕ) → ScriptFault → Type 0
Closes fault.Write before after g = (g ≡ fault.Write) × (after ≡ before)
Closes fault.OutOfMemory before after g = (g ≡ fault.OutOfMemory) × (after ≡ before)
Closes f before after g = TellsFault f before after g

-- and how the writes of the end went: none was tried, where output or memory was wanting before
abbrev pub CloseWrites : ScriptFault → WrittenSoFar → WrittenSoFar → ScriptFault → Type 0
CloseWrites fault.Write old new g = new ≡ old
CloseWrites fault.OutOfMemory old new g = new ≡ old
CloseWrites f old new g = TellWrites old new g

-- how a fault ends a trace as JSON: as it ends a script, and with its end
abbrev pub TracedTo : Option (List ℕ) → Option (List ℕ) → Option (List ℕ) → Option (List ℕ) → ScriptFault → Type 0
TracedTo r s c d g = (f : ScriptFault) × (middle : Option (List ℕ)) × ReplayedTo json_line r s c middle f × Closes f middle d g
