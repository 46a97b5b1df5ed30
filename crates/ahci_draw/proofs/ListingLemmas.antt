-- How a run ends whose script was replayed to its end, or to a fault of its own.
use Rattle.std.proofs.Common.{◌≡◌, List, [], ℕ, Option, Some, Result, Ok, Err, OnOk, IfErr, true, inl, inr, subst, sym}
use Rattle.std.specs.Result.{result_and}
use Rattle.std.specs.Io.KnownBytes.{Appends}
use Rattle.ahci_replay.specs.Transcript.{ReadsBefore, ReadsTo, Replayed, ReplayedTo}
use Rattle.ahci_replay.specs.declared.script_fault.ScriptFault.{ScriptFault}
use Rattle.ahci_replay.specs.declared.script_fault.ScriptFault.TheVariants as fault
use Rattle.streams.specs.Ends.{ReadSoFar, WrittenSoFar, with_flush}
use Rattle.ahci_draw.specs.Drawn.{DrawWrites, Drawn, DrawnTo, IsSentTo, IsListing, IsListingTo, SendWrites, has_listing, picture_lines}
use Rattle.ahci_draw.specs.Listing.{listing_text}

-- the listing that it has
abbrev pub ListingOf : {T : Type 0} → Option (List ℕ) → Option (List ℕ) → List ℕ → Result T ScriptFault → Type 0
ListingOf r s listing (Ok x) = IsListing r s listing
ListingOf r s listing (Err f) = IsListingTo r s f listing

-- one that was empty at first
moved : (P : List ℕ → List ℕ → Type 0) (old items listing : List ℕ) → old ≡ [] → listing ≡ items → P old items → P [] listing
moved P old items listing empty same is = subst (P []) (sym same) (subst (λ o. P o items) empty is)

pub listing_of : {T : Type 0} (result : Result T ScriptFault) (r s : Option (List ℕ)) (old items listing : List ℕ) → old ≡ [] → listing ≡ items → has_listing result ≡ true
    → OnOk result (Replayed listing_text r s (Some old) (Some items)) → IfErr result (ReplayedTo listing_text r s (Some old) (Some items)) → ListingOf r s listing result
listing_of (Ok x) r s old items listing empty same has ok err = moved (λ o t. Replayed listing_text r s (Some o) (Some t)) old items listing empty same ok
listing_of (Err (fault.Line n)) r s old items listing empty same has ok err = moved (λ o t. ReplayedTo listing_text r s (Some o) (Some t) (fault.Line n)) old items listing empty same err
listing_of (Err fault.Read) r s old items listing empty same has ok err = moved (λ o t. ReplayedTo listing_text r s (Some o) (Some t) fault.Read) old items listing empty same err
listing_of (Err fault.Write) r s old items listing empty same has ok err = absurd (cc)
listing_of (Err fault.OutOfMemory) r s old items listing empty same has ok err = absurd (cc)

-- the run of a script that has this listing, and then the sending of its picture
module _ (r s c d : Option (List ℕ)) (from to : ℕ) (listing : List ℕ) where
  whole : (sent replayed : Result (Unit {0}) ScriptFault) → ListingOf r s listing replayed → OnOk sent (Appends c d (picture_lines from to listing))
      → OnOk (result_and sent replayed) (Drawn from to r s c d)
  whole (Ok x) (Ok y) is written = record { listing = listing; replayed = is; written = written }
  whole (Ok x) (Err f) is written = tt
  whole (Err f) replayed is written = tt

  pub drawn_whole : (sent replayed result : Result (Unit {0}) ScriptFault) → result ≡ result_and sent replayed → ListingOf r s listing replayed
      → OnOk sent (Appends c d (picture_lines from to listing)) → OnOk result (Drawn from to r s c d)
  drawn_whole sent replayed result same is written = subst (λ t. OnOk t (Drawn from to r s c d)) (sym same) (whole sent replayed is written)

  not_sent : (replayed : Result (Unit {0}) ScriptFault) (f : ScriptFault) → ListingOf r s listing replayed → IsSentTo from to listing c d f → DrawnTo from to r s c d f
  not_sent replayed fault.OutOfMemory is sent = sent
  not_sent (Ok x) fault.Write is sent = record { listing = listing; replayed = inl is; count = sent.0; written = sent.1 }
  not_sent (Err f) fault.Write is sent = record { listing = listing; replayed = inr (f, is); count = sent.0; written = sent.1 }
  not_sent replayed (fault.Line n) is sent = absurd sent
  not_sent replayed fault.Read is sent = absurd sent

  ended : (sent replayed : Result (Unit {0}) ScriptFault) → ListingOf r s listing replayed → OnOk sent (Appends c d (picture_lines from to listing))
      → IfErr sent (IsSentTo from to listing c d) → IfErr (result_and sent replayed) (DrawnTo from to r s c d)
  ended (Ok x) (Ok y) is written failed = tt
  ended (Ok x) (Err (fault.Line n)) is written failed = record { listing = listing; replayed = is; written = written }
  ended (Ok x) (Err fault.Read) is written failed = record { listing = listing; replayed = is; written = written }
  ended (Ok x) (Err fault.Write) is written failed = absurd is
  ended (Ok x) (Err fault.OutOfMemory) is written failed = absurd is
  ended (Err f) replayed is written failed = not_sent replayed f is failed

  pub drawn_to : (sent replayed result : Result (Unit {0}) ScriptFault) → result ≡ result_and sent replayed → ListingOf r s listing replayed
      → OnOk sent (Appends c d (picture_lines from to listing)) → IfErr sent (IsSentTo from to listing c d) → IfErr result (DrawnTo from to r s c d)
  drawn_to sent replayed result same is written failed = subst (λ t. IfErr t (DrawnTo from to r s c d)) (sym same) (ended sent replayed is written failed)

-- how its writes went
module _ (old new : WrittenSoFar) where
  pub drawn_flushed : (sent replayed : Result (Unit {0}) ScriptFault) → OnOk sent (new ≡ with_flush old) → OnOk (result_and sent replayed) (new ≡ with_flush old)
  drawn_flushed (Ok x) (Ok y) flushed = flushed
  drawn_flushed (Ok x) (Err f) flushed = tt
  drawn_flushed (Err f) replayed flushed = tt

  draws_as : (f : ScriptFault) → SendWrites old new f → DrawWrites old new f
  draws_as fault.OutOfMemory sent = sent
  draws_as fault.Write sent = sent
  draws_as (fault.Line n) sent = absurd sent
  draws_as fault.Read sent = absurd sent

  pub draws : (r s : Option (List ℕ)) (listing : List ℕ) (sent replayed : Result (Unit {0}) ScriptFault) → ListingOf r s listing replayed → OnOk sent (new ≡ with_flush old) → IfErr sent (SendWrites old new)
      → IfErr (result_and sent replayed) (DrawWrites old new)
  draws r s listing (Ok x) (Ok y) is flushed failed = tt
  draws r s listing (Ok x) (Err (fault.Line n)) is flushed failed = flushed
  draws r s listing (Ok x) (Err fault.Read) is flushed failed = flushed
  draws r s listing (Ok x) (Err fault.Write) is flushed failed = absurd is
  draws r s listing (Ok x) (Err fault.OutOfMemory) is flushed failed = absurd is
  draws r s listing (Err f) replayed is flushed failed = draws_as f failed

-- and its reads
module _ (old new : ReadSoFar) where
  pub drawn_unfailed : (sent replayed : Result (Unit {0}) ScriptFault) → OnOk replayed (new.failed ≡ old.failed) → OnOk (result_and sent replayed) (new.failed ≡ old.failed)
  drawn_unfailed (Ok x) (Ok y) unfailed = unfailed
  drawn_unfailed (Ok x) (Err f) unfailed = tt
  drawn_unfailed (Err f) replayed unfailed = tt

  before : (f : ScriptFault) → ReadsTo old new f → ReadsBefore old new f
  before (fault.Line n) reads = reads
  before fault.Read reads = reads
  before fault.Write reads = tt
  before fault.OutOfMemory reads = tt

  pub reads_drawn : (before_writes after_writes : WrittenSoFar) (sent replayed : Result (Unit {0}) ScriptFault) → IfErr sent (SendWrites before_writes after_writes) → IfErr replayed (ReadsTo old new)
      → IfErr (result_and sent replayed) (ReadsBefore old new)
  reads_drawn x y (Ok sent) (Ok whole) failed reads = tt
  reads_drawn x y (Ok sent) (Err f) failed reads = before f reads
  reads_drawn x y (Err (fault.Line n)) replayed failed reads = absurd failed
  reads_drawn x y (Err fault.Read) replayed failed reads = absurd failed
  reads_drawn x y (Err fault.Write) replayed failed reads = tt
  reads_drawn x y (Err fault.OutOfMemory) replayed failed reads = tt
