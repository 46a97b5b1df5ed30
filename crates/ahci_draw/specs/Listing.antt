-- What a script's answers add to the listing, from which the picture is made.
use Rattle.std.specs.Prelude.{ℕ, ◌-◌, List, [], ◌∷◌, ◌++◌, max, Option, None, Some}
use Rattle.ahci_port.specs.PortView.{PortView, next_number}
use Rattle.ahci_replay.specs.Transcript.{Telling}
use Rattle.ahci_draw.specs.Entries.{entries_text}
use Rattle.ahci_draw.specs.Mark.{mark_of}
use Rattle.ahci_draw.specs.declared.mark.Mark.{Mark}

-- the lines of a port's entries from a number on
abbrev pub entries_from : Mark → PortView → ℕ → List ℕ
entries_from mark port number = entries_text port.first port.past mark.tags number (next_number port - number)

-- what a command has added that found a port with this mark, and has left this one: a line for each entry; a journal that was
-- trimmed has none before its first
abbrev pub added_on : Mark → PortView → List ℕ
added_on mark port = entries_from mark port (max mark.end port.first)

-- what a command has added that found the first port, and has left the second; nothing before the disk
abbrev pub added_between : Option PortView → Option PortView → List ℕ
added_between before None = []
added_between before (Some port) = added_on (mark_of before) port

-- the text for an answer: each line of an entry begins with a line feed, and one more comes after them
abbrev pub listing_text : Telling
listing_text number line said before after = added_between before after ++ 10 ∷ []
