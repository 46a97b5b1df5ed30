-- The lines of a script: what each of them spells, or the first rule that it breaks.
use Rattle.std.specs.Prelude.{ℕ, zero, suc, ◌<◌, ◌≤◌, ◌==◌, List, [], ◌∷◌, ◌++◌, Option, Some, None, Result, Ok, Err, length, if◌then◌else◌}
use Rattle.std.specs.List.{All}
use Rattle.std.specs.Result.{result_ok}
use Rattle.ahci_script.specs.Breaches.{◌>>=◌, breach_at, comment_of, seen_in}
use Rattle.ahci_script.specs.HexBytes.{header_of, hex_bytes_of}
use Rattle.ahci_script.specs.Names.{name_of}
use Rattle.ahci_script.specs.Number.{byte_of, decimal_of, hexadecimal_of, page_word_of, sectors_of, tag_of}
use Rattle.ahci_script.specs.Words.{Rest, ends, first_of, word_of}
use Rattle.ahci_script.specs.declared.breach.Breach.{Breach}
use Rattle.ahci_script.specs.declared.command_name.CommandName.{CommandName}
use Rattle.ahci_script.specs.declared.command_name.CommandName.TheVariants as the-name
use Rattle.ahci_script.specs.declared.fault.Fault.TheVariants.{ManyTags, SpareSpace, UnknownCommand}
use Rattle.ahci_script.specs.declared.line.ScriptCommand.{ScriptCommand}
use Rattle.ahci_script.specs.declared.line.ScriptCommand.TheVariants.{Disk, Write, Read, Raw, Accept, Serve, Fail, Collect, Recover, Reissue, Reg, Ack, Identify, Flush, Show, Journal, Trim}
use Rattle.ahci_script.specs.declared.line.Line.{Line}
use Rattle.ahci_script.specs.declared.line.Line.TheVariants as the-line

-- a command, or the first rule that its words break
abbrev pub Command : Type 0
Command = Result ScriptCommand Breach

-- a command, after whose words nothing is left
abbrev pub alone : ScriptCommand → Rest → Command
alone command words = do
  end ← ends words
  Ok command

-- a number, where a word is left
abbrev pub number_if_any : Rest → Result (Option ℕ) Breach
number_if_any None = Ok None
number_if_any (Some text) = do
  n ← word_of decimal_of (Some text)
  end ← ends n.1
  Ok (Some n.0)

-- disk S D, or disk S D F
abbrev pub disk_of : Rest → Command
disk_of words = do
  s ← word_of decimal_of words
  d ← word_of decimal_of s.1
  first ← number_if_any d.1
  Ok (Disk s.0 d.0 first)

-- write T LBA N BB
abbrev pub write_of : Rest → Command
write_of words = do
  t ← word_of tag_of words
  l ← word_of decimal_of t.1
  n ← word_of sectors_of l.1
  b ← word_of byte_of n.1
  alone (Write t.0 l.0 n.0 b.0) b.1

-- read T LBA N
abbrev pub read_of : Rest → Command
read_of words = do
  t ← word_of tag_of words
  l ← word_of decimal_of t.1
  n ← word_of sectors_of l.1
  alone (Read t.0 l.0 n.0) n.1

-- raw T H B
abbrev pub raw_of : Rest → Command
raw_of words = do
  t ← word_of tag_of words
  h ← word_of header_of t.1
  b ← word_of hex_bytes_of h.1
  alone (Raw t.0 (record { header = h.0; bytes = b.0 })) b.1

-- accept T
abbrev pub accept_of : Rest → Command
accept_of words = do
  t ← word_of tag_of words
  alone (Accept t.0) t.1

-- tags that were read, and the tags of the words that are left, as many as there is room for
unfoldable pub more_tags : ℕ → List ℕ → Rest → Result (List ℕ) Breach
more_tags room tags None = Ok tags
more_tags zero tags (Some text) = Err (breach_at text ManyTags)
more_tags (suc room) tags (Some text) = do
  t ← word_of tag_of (Some text)
  more_tags room (tags ++ t.0 ∷ []) t.1

-- 1 to 32 tags
abbrev pub tags_of : Rest → Result (List ℕ) Breach
tags_of words = do
  t ← word_of tag_of words
  more_tags 31 (t.0 ∷ []) t.1

-- serve T T ..
abbrev pub serve_of : Rest → Command
serve_of words = do
  tags ← tags_of words
  Ok (Serve (record { items = tags }))

-- fail T EE LBA
abbrev pub fail_of : Rest → Command
fail_of words = do
  t ← word_of tag_of words
  e ← word_of byte_of t.1
  l ← word_of decimal_of e.1
  alone (Fail t.0 e.0 l.0) l.1

-- collect T K
abbrev pub collect_of : Rest → Command
collect_of words = do
  t ← word_of tag_of words
  n ← word_of decimal_of t.1
  alone (Collect t.0 n.0) n.1

-- reissue T
abbrev pub reissue_of : Rest → Command
reissue_of words = do
  t ← word_of tag_of words
  alone (Reissue t.0) t.1

-- reg OFF
abbrev pub reg_of : Rest → Command
reg_of words = do
  off ← word_of hexadecimal_of words
  alone (Reg off.0) off.1

-- ack MASK
abbrev pub ack_of : Rest → Command
ack_of words = do
  mask ← word_of hexadecimal_of words
  alone (Ack mask.0) mask.1

-- identify W
abbrev pub identify_of : Rest → Command
identify_of words = do
  w ← word_of page_word_of words
  alone (Identify w.0) w.1

-- show LBA
abbrev pub show_of : Rest → Command
show_of words = do
  l ← word_of decimal_of words
  alone (Show l.0) l.1

-- a line that begins with no command's name
abbrev pub unnamed : List ℕ → List ℕ → Breach
unnamed line [] = breach_at line SpareSpace
unnamed line (b ∷ bs) = breach_at line UnknownCommand

-- a command by its name, the first word of its line
abbrev pub command_by : Option CommandName → List ℕ → List ℕ → Rest → Command
command_by (Some the-name.Write) line name words = write_of words
command_by (Some the-name.Read) line name words = read_of words
command_by (Some the-name.Raw) line name words = raw_of words
command_by (Some the-name.Collect) line name words = collect_of words
command_by (Some the-name.Recover) line name words = alone Recover words
command_by (Some the-name.Reissue) line name words = reissue_of words
command_by (Some the-name.Disk) line name words = disk_of words
command_by (Some the-name.Identify) line name words = identify_of words
command_by (Some the-name.Flush) line name words = alone Flush words
command_by (Some the-name.Show) line name words = show_of words
command_by (Some the-name.Journal) line name words = alone Journal words
command_by (Some the-name.Trim) line name words = alone Trim words
command_by (Some the-name.Accept) line name words = accept_of words
command_by (Some the-name.Serve) line name words = serve_of words
command_by (Some the-name.Fail) line name words = fail_of words
command_by (Some the-name.Reg) line name words = reg_of words
command_by (Some the-name.Ack) line name words = ack_of words
command_by None line name words = Err (unnamed line name)

abbrev pub named : List ℕ → List ℕ → Rest → Command
named line name words = command_by (name_of name) line name words

-- a command, which is a name and its words
abbrev pub command_of : List ℕ → Command
command_of line = named line (first_of line).0 (first_of line).1

-- a list of tags: 1 to 32, each one of 32
pub record AreTags (tags : List ℕ) : Type 0 where
  pub some : 0 < length tags
  pub most : length tags ≤ 32
  pub small : All (λ tag. tag < 32) tags

-- a tag is one of 32
abbrev pub HasSmallTag : ScriptCommand → Type 0
HasSmallTag (Write tag lba sectors fill) = tag < 32
HasSmallTag (Read tag lba sectors) = tag < 32
HasSmallTag (Raw tag window) = tag < 32
HasSmallTag (Accept tag) = tag < 32
HasSmallTag (Serve tags) = AreTags tags.items
HasSmallTag (Fail tag error lba) = tag < 32
HasSmallTag (Collect tag number) = tag < 32
HasSmallTag (Reissue tag) = tag < 32
HasSmallTag command = Unit {0}

abbrev pub HasSmallTags : Line → Type 0
HasSmallTags the-line.Skip = Unit {0}
HasSmallTags (the-line.Run command) = HasSmallTag command

-- a line: nothing, a comment after `#`, or a command
abbrev pub reading : List ℕ → Result Line Breach
reading [] = Ok the-line.Skip
reading (b ∷ bs) =
    if b == 35 then (comment_of (b ∷ bs) >>= λ end. Ok the-line.Skip) else seen_in (b ∷ bs) (command_of (b ∷ bs) >>= λ c. Ok (the-line.Run c))

-- what a line spells, none where it breaks a rule
abbrev pub line_of : List ℕ → Option Line
line_of line = result_ok (reading line)
