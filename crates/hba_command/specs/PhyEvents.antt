-- What the disk counts of its interface (Serial ATA, "Phy Event Counters"): commands that ended with ICRC, counter 001h, and signatures that were sent
-- because of a COMRESET, counter 00Ah.
use Rattle.std.specs.Prelude.{ℕ, ◌+◌, ◌&&◌, Bool, List, min, replicate, if◌then◌else◌}
use Rattle.sata_fis.specs.Places.{bit}
use Rattle.hba_command.specs.Words.{with_word}
use Rattle.hba_command.specs.declared.phy_events.PhyEvents.{PhyEvents}

-- no event: as power-on and the host's reset of the counters leave them
abbrev pub no_events : PhyEvents
no_events = record { icrc = 0; signatures = 0 }

-- a counter of 16 bits with one more; at its most it stays (profile)
abbrev pub counted : ℕ → ℕ
counted n = min (n + 1) 0xFFFF

-- a command has ended with this status and error: it counts with ERR (bit 0 of the status) and ICRC (bit 7 of the error)
abbrev pub has_icrc : (status error : ℕ) → Bool
has_icrc status error = bit 0 status && bit 7 error

abbrev pub with_ending : (status error : ℕ) → PhyEvents → PhyEvents
with_ending status error e = if has_icrc status error then record e { icrc = counted e.icrc } else e

abbrev pub with_signature : PhyEvents → PhyEvents
with_signature e = record e { signatures = counted e.signatures }

-- log 11h but for its checksum: from byte 4 on each counter has a word of its identifier, with the number of its words in bits 14:12, and its value;
-- identifier 000h ends them
abbrev pub events_page : PhyEvents → List ℕ
events_page e = with_word 5 e.signatures (with_word 4 0x100A (with_word 3 e.icrc (with_word 2 0x1001 (replicate 512 0))))
