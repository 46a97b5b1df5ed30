-- The states of the commands of the 32 tags, and which tags were last issued to write.
use Rattle.std.specs.Prelude.{ℕ, ◌==◌, List, map, filter, length, replicate, if◌then◌else◌, Bool, false, Option, None, Some, option_and_then, slice_index_or}
use Rattle.std.specs.List.{list_any, range_with_len}
use Rattle.ahci_port.specs.Faults.{is_accepted}
use Rattle.ahci_port.specs.PortView.{PortView, owner_of}
use Rattle.ncq_journal.specs.Entry.{Entry, Issue}
use Rattle.ncq_journal.specs.Image.{is_write}
use Rattle.ncq_journal.specs.Numbering.{entry_numbered}
use Rattle.ncq_journal.specs.Phase.{is_failed, phase, phase_after}
use Rattle.ncq_journal.specs.declared.phase.Phase.TheVariants.{Free}
use Rattle.ahci_draw.specs.declared.tag_state.TagState.{TagState}

abbrev pub unused : TagState
unused = record { phase = Free; writes = false }

-- an entry issues a write
abbrev pub issues_write : Option Entry → Bool
issues_write (Some (Issue tag work)) = is_write work
issues_write entry = false

-- the entry of the request that owns a tag's slot issues a write
abbrev pub writes_in : PortView → ℕ → Bool
writes_in port tag = issues_write (option_and_then (entry_numbered port.first port.past) (owner_of port tag))

abbrev pub tag_in : PortView → ℕ → TagState
tag_in port tag = record { phase = phase port.past tag; writes = writes_in port tag }

-- the tags of a port by its journal; before the disk none was used
unfoldable pub tags_of : Option PortView → List TagState
tags_of None = replicate 32 unused
tags_of (Some port) = map (tag_in port) (range_with_len 0 32)

-- a tag after one more entry
abbrev pub turned_by : ℕ → Bool → Entry → Bool
turned_by tag before (Issue t work) = if t == tag then is_write work else before
turned_by tag before entry = before

abbrev pub tag_after : ℕ → TagState → Entry → TagState
tag_after tag before entry = record { phase = phase_after tag before.phase entry; writes = turned_by tag before.writes entry }

abbrev pub moved_at : List TagState → Entry → ℕ → TagState
moved_at tags entry tag = tag_after tag (slice_index_or tags tag unused) entry

-- the tags after one more entry
unfoldable pub moved : List TagState → Entry → List TagState
moved tags entry = map (moved_at tags entry) (range_with_len 0 32)

abbrev pub is_taken : TagState → Bool
is_taken tag = is_accepted tag.phase

abbrev pub has_failed : TagState → Bool
has_failed tag = is_failed tag.phase

-- how many tags are outstanding in the device: those that it has accepted, and none once it has reported an error
-- (AHCI 1.3.1, section 6.2.2)
unfoldable pub in_device : List TagState → ℕ
in_device tags = if list_any has_failed tags then 0 else length (filter is_taken tags)
