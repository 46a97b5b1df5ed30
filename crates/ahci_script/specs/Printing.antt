-- How a command is printed, and which of its numbers a script can have.
use Rattle.std.specs.Prelude.{◌≡◌, ℕ, ◌^◌, ◌<◌, List, [], ◌∷◌, ◌++◌, Some, None, Ok, IfSome, codes, length}
use Rattle.std.specs.List.{All}
use Rattle.std.specs.Fmt.{decimal}
use Rattle.streams.specs.Text.{hex_of}
use Rattle.ahci_script.specs.Answers.{numbers_text}
use Rattle.ahci_script.specs.Lines.{AreTags, reading}
use Rattle.ahci_script.specs.Number.{sectors_limit}
use Rattle.ahci_script.specs.declared.line.ScriptCommand.{ScriptCommand}
use Rattle.ahci_script.specs.declared.line.ScriptCommand.TheVariants.{Disk, Write, Read, Raw, Accept, Serve, Fail, Collect, Recover, Reissue, Reg, Ack, Identify, Flush, Show, Journal, Trim}
use Rattle.ahci_script.specs.declared.line.Line.TheVariants as line

-- a word and the words after it
abbrev pub before : List ℕ → List ℕ → List ℕ
before word others = word ++ 32 ∷ others

-- bytes, by two digits each
abbrev pub hex_bytes : List ℕ → List ℕ
hex_bytes [] = []
hex_bytes (byte ∷ bytes) = hex_of 2 byte ++ hex_bytes bytes

-- the words of a command, in the order of its fields
abbrev pub printed : ScriptCommand → List ℕ
printed (Disk sectors depth None) = before (codes "disk") (before (decimal sectors) (decimal depth))
printed (Disk sectors depth (Some first)) = before (codes "disk") (before (decimal sectors) (before (decimal depth) (decimal first)))
printed (Write tag lba sectors fill) = before (codes "write") (before (decimal tag) (before (decimal lba) (before (decimal sectors) (hex_of 2 fill))))
printed (Read tag lba sectors) = before (codes "read") (before (decimal tag) (before (decimal lba) (decimal sectors)))
printed (Raw tag w) = before (codes "raw") (before (decimal tag) (before (hex_bytes w.header) (hex_bytes w.bytes)))
printed (Accept tag) = before (codes "accept") (decimal tag)
printed (Serve tags) = codes "serve" ++ numbers_text tags.items
printed (Fail tag error lba) = before (codes "fail") (before (decimal tag) (before (hex_of 2 error) (decimal lba)))
printed (Collect tag number) = before (codes "collect") (before (decimal tag) (decimal number))
printed Recover = codes "recover"
printed (Reissue tag) = before (codes "reissue") (decimal tag)
printed (Reg off) = before (codes "reg") (hex_of 8 off)
printed (Ack mask) = before (codes "ack") (hex_of 8 mask)
printed (Identify word) = before (codes "identify") (decimal word)
printed Flush = codes "flush"
printed (Show lba) = before (codes "show") (decimal lba)
printed Journal = codes "journal"
printed Trim = codes "trim"

-- the numbers are in their ranges: a tag is below 32, a number of sectors at most 131,072, a byte or a word of the identify
-- page below 256, an offset or a mask below 2^32, and every other number below 2^64; a list of tags has 1 to 32, a header 32
-- bytes, and a window one at least
abbrev pub IsInRange : ScriptCommand → Type 0
IsInRange (Disk sectors depth first) = (sectors < 2 ^ 64) × (depth < 2 ^ 64) × IfSome first (λ n. n < 2 ^ 64)
IsInRange (Write tag lba sectors fill) = (tag < 32) × (lba < 2 ^ 64) × (sectors < sectors_limit) × (fill < 256)
IsInRange (Read tag lba sectors) = (tag < 32) × (lba < 2 ^ 64) × (sectors < sectors_limit)
IsInRange (Raw tag w) = (tag < 32) × (length w.header ≡ 32) × All (λ b. b < 256) w.header × (0 < length w.bytes) × All (λ b. b < 256) w.bytes
IsInRange (Accept tag) = tag < 32
IsInRange (Serve tags) = AreTags tags.items
IsInRange (Fail tag error lba) = (tag < 32) × (error < 256) × (lba < 2 ^ 64)
IsInRange (Collect tag number) = (tag < 32) × (number < 2 ^ 64)
IsInRange (Reissue tag) = tag < 32
IsInRange (Reg off) = off < 2 ^ 32
IsInRange (Ack mask) = mask < 2 ^ 32
IsInRange (Identify word) = word < 256
IsInRange (Show lba) = lba < 2 ^ 64
IsInRange command = Unit {0}

-- every command, printed, is read back as itself
abbrev pub IsReadBack : Type 0
IsReadBack = (command : ScriptCommand) → IsInRange command → reading (printed command) ≡ Ok (line.Run command)
