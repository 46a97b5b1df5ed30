-- The answers of a script, as they are written.
use Rattle.std.specs.Prelude.{ℕ, zero, suc, ◌+◌, ◌-◌, ◌*◌, ◌/◌, List, [], ◌∷◌, ◌++◌, Some, None, length, slice_index, codes}
use Rattle.std.specs.Fmt.{decimal}
use Rattle.std.specs.List.{range_with_len}
use Rattle.streams.specs.Text.{hex_of}
use Rattle.ahci_script.specs.Said.{Said, Disk, Issued, Accepted, Completed, FailedStep, Wrote, Read, Failed, Recovered, Reissued, Register, Acked, Word, Flushed, Sector, Journal, Trimmed, Refused}
use Rattle.port_refusal.specs.Names.{name_of}

-- numbers, each in decimal and after a space
abbrev pub numbers_text : List ℕ → List ℕ
numbers_text [] = []
numbers_text (number ∷ numbers) = 32 ∷ (decimal number ++ numbers_text numbers)

-- the entries of a journal from the first up to the end
abbrev pub entries_between : ℕ → ℕ → List ℕ
entries_between first end = range_with_len first (end - first)

-- a sector among these bytes, by its first byte and after a space
abbrev pub sector_text : List ℕ → ℕ → List ℕ
sector_text bytes i = 32 ∷ hex_of 2 (slice_index bytes (512 * i))

-- the first n sectors of the bytes
abbrev pub sectors_text : List ℕ → ℕ → List ℕ
sectors_text bytes zero = []
sectors_text bytes (suc n) = sectors_text bytes n ++ sector_text bytes n

-- an answer, without its line feed
abbrev pub answer_text : Said → List ℕ
answer_text (Disk sectors depth None) = codes "disk " ++ (decimal sectors ++ (codes " " ++ decimal depth))
answer_text (Disk sectors depth (Some first)) =
    codes "disk " ++ (decimal sectors ++ (codes " " ++ (decimal depth ++ (codes " " ++ decimal first))))
answer_text (Issued entry) = codes "issued " ++ decimal entry
answer_text (Accepted entry) = codes "accepted " ++ decimal entry
answer_text (Completed first end) = codes "completed" ++ numbers_text (entries_between first end)
answer_text (FailedStep entry) = codes "failed " ++ decimal entry
answer_text (Wrote entry) = codes "wrote " ++ decimal entry
answer_text (Read entry bytes) = codes "read " ++ (decimal entry ++ sectors_text bytes (length bytes / 512))
answer_text (Failed entry error lba) =
    codes "failed " ++ (decimal entry ++ (codes " " ++ (hex_of 2 error ++ (codes " " ++ decimal lba))))
answer_text (Recovered tag) = codes "recovered " ++ decimal tag
answer_text (Reissued tag) = codes "reissued " ++ decimal tag
answer_text (Register value) = hex_of 8 value
answer_text Acked = codes "acked"
answer_text (Word word value) = codes "word " ++ (decimal word ++ (codes " " ++ hex_of 4 value))
answer_text Flushed = codes "flushed"
answer_text (Sector lba byte) = codes "sector " ++ (decimal lba ++ (codes " " ++ hex_of 2 byte))
answer_text (Journal entries) = codes "journal " ++ decimal entries
answer_text (Trimmed entries) = codes "trimmed " ++ decimal entries
answer_text (Refused refusal) = codes "refused " ++ name_of refusal

-- how many bytes its line has at most
abbrev pub room_of : Said → ℕ
room_of (Read entry bytes) = 64 + 3 * (length bytes / 512)
room_of (Completed first end) = 64 + 21 * (end - first)
room_of (Disk sectors depth (Some first)) = 64 + 21
room_of said = 64
