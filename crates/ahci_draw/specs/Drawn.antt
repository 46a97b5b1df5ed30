-- What a run of `draw` has written.
use Rattle.std.specs.Prelude.{◌≡◌, ℕ, Bool, true, false, List, [], ◌∷◌, ◌++◌, take, Option, Some, Result, Ok, Err, ◌⊎◌}
use Rattle.std.specs.Io.KnownBytes.{Appends}
use Rattle.streams.specs.Ends.{WrittenSoFar, with_failed_write, with_flush}
use Rattle.ahci_replay.specs.Transcript.{Replayed, ReplayedTo}
use Rattle.ahci_replay.specs.declared.script_fault.ScriptFault.{ScriptFault}
use Rattle.ahci_replay.specs.declared.script_fault.ScriptFault.TheVariants as fault
use Rattle.ahci_draw.specs.Picture.{picture_text}
use Rattle.ahci_draw.specs.Listing.{listing_text}

-- the whole picture is a text of lines
abbrev pub picture_lines : (from to : ℕ) → List ℕ → List ℕ
picture_lines from to listing = picture_text from to listing ++ 10 ∷ []

-- a script was replayed to its end, or to a fault of its own
abbrev pub has_listing : {T : Type 0} → Result T ScriptFault → Bool
has_listing (Ok x) = true
has_listing (Err (fault.Line n)) = true
has_listing (Err fault.Read) = true
has_listing (Err f) = false

-- the listing of a script that was replayed to its end
abbrev pub IsListing : Option (List ℕ) → Option (List ℕ) → List ℕ → Type 0
IsListing r s listing = Replayed listing_text r s (Some []) (Some listing)

-- the listing of the lines before a fault: a faulty line, or a failed read
abbrev pub IsListingTo : Option (List ℕ) → Option (List ℕ) → ScriptFault → List ℕ → Type 0
IsListingTo r s (fault.Line n) listing = ReplayedTo listing_text r s (Some []) (Some listing) (fault.Line n)
IsListingTo r s fault.Read listing = ReplayedTo listing_text r s (Some []) (Some listing) fault.Read
IsListingTo r s _ listing = ⊥

-- the script was replayed to its end, and the picture is written
pub record Drawn (from to : ℕ) (r s c d : Option (List ℕ)) : Type 0 where
  pub listing : List ℕ
  pub replayed : IsListing r s listing
  pub written : Appends c d (picture_lines from to listing)

-- a fault has ended the script, and the picture of what was done before it is written
pub record DrawnBefore (from to : ℕ) (r s c d : Option (List ℕ)) (f : ScriptFault) : Type 0 where
  pub listing : List ℕ
  pub replayed : IsListingTo r s f listing
  pub written : Appends c d (picture_lines from to listing)

-- how the picture of a listing fails to be written: in part, or not at all where memory was refused
abbrev pub IsSentTo : (from to : ℕ) → List ℕ → Option (List ℕ) → Option (List ℕ) → ScriptFault → Type 0
IsSentTo from to listing c d fault.OutOfMemory = d ≡ c
IsSentTo from to listing c d fault.Write = (count : ℕ) × Appends c d (take count (picture_lines from to listing))
IsSentTo from to listing c d _ = ⊥

-- a first part of the picture is written
pub record DrawnPart (from to : ℕ) (r s c d : Option (List ℕ)) : Type 0 where
  pub listing : List ℕ
  pub replayed : IsListing r s listing ⊎ ((f : ScriptFault) × IsListingTo r s f listing)
  pub count : ℕ
  pub written : Appends c d (take count (picture_lines from to listing))

-- how a fault ends it: where memory was refused nothing is written
abbrev pub DrawnTo : (from to : ℕ) → Option (List ℕ) → Option (List ℕ) → Option (List ℕ) → Option (List ℕ) → ScriptFault → Type 0
DrawnTo from to r s c d (fault.Line n) = DrawnBefore from to r s c d (fault.Line n)
DrawnTo from to r s c d fault.Read = DrawnBefore from to r s c d fault.Read
DrawnTo from to r s c d fault.OutOfMemory = d ≡ c
DrawnTo from to r s c d fault.Write = DrawnPart from to r s c d

-- ---- how the writes went

-- where a picture is not written: a write or a flush failed, and the fault is that; or none was tried, for want of memory
abbrev pub SendWrites : WrittenSoFar → WrittenSoFar → ScriptFault → Type 0
SendWrites old new fault.Write = new ≡ with_failed_write old
SendWrites old new fault.OutOfMemory = new ≡ old
SendWrites old new _ = ⊥

-- where a fault is reported
abbrev pub DrawWrites : WrittenSoFar → WrittenSoFar → ScriptFault → Type 0
DrawWrites old new (fault.Line n) = new ≡ with_flush old
DrawWrites old new fault.Read = new ≡ with_flush old
DrawWrites old new fault.Write = new ≡ with_failed_write old
DrawWrites old new fault.OutOfMemory = new ≡ old
