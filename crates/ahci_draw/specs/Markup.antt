-- The small part of XML 1.0 that a picture is written in ("Logical Structures"): elements, each closed by its name or empty, with
-- attributes in single quotes, and text. No reference, comment, instruction or declaration is read.
use Rattle.std.specs.Prelude.{◌≡◌, ℕ, ◌==◌, nat_le, if◌then◌else◌, not, Bool, true, false, ◌&&◌, ◌||◌, List, [], ◌∷◌}

-- a byte that stands for itself in text and in a value: printable ASCII, and none of " & ' < >
abbrev pub is_plain : ℕ → Bool
is_plain byte = nat_le 32 byte && (nat_le byte 126 && (not (byte == 34) && (not (byte == 38) && (not (byte == 39) && (not (byte == 60) && not (byte == 62))))))

-- a byte of a name: a letter, or a dash
abbrev pub is_name : ℕ → Bool
is_name byte = (nat_le 97 byte && nat_le byte 122) || ((nat_le 65 byte && nat_le byte 90) || (byte == 45))

-- the state of a reader; names have their last byte first
pub data Place : Type 0 where
  -- between tags
  Text : Place
  -- after the < of a tag
  Begun : Place
  -- in the name of a start tag, and after the space that follows it
  Named : (name : List ℕ) → Place
  Spaced : (name : List ℕ) → Place
  -- in the name of an attribute, after its =, in its value, and after that
  Keyed : (name : List ℕ) → Place
  Valued : (name : List ℕ) → Place
  Quoted : (name : List ℕ) → Place
  Unquoted : (name : List ℕ) → Place
  -- after the / of an empty element
  Emptied : Place
  -- in the name of an end tag
  Ending : (name : List ℕ) → Place
  -- what was read isn't well-formed
  Wrong : Place

-- a reader's place, and the names of the elements that are open, the innermost first
pub record Reader : Type 0 where
  pub place : Place
  pub opened : List (List ℕ)

abbrev pub at : Place → List (List ℕ) → Reader
at place opened = record { place = place; opened = opened }

abbrev pub wrong : Reader
wrong = at Wrong []

abbrev pub same : List ℕ → List ℕ → Bool
same [] [] = true
same [] (y ∷ ys) = false
same (x ∷ xs) [] = false
same (x ∷ xs) (y ∷ ys) = (x == y) && same xs ys

-- an end tag closes the innermost element, whose name it has
abbrev pub closed : List ℕ → List (List ℕ) → Reader
closed name [] = wrong
closed name (innermost ∷ opened) = if same name innermost then at Text opened else wrong

-- after the name or an attribute of a start tag
abbrev pub after_name : List ℕ → List (List ℕ) → ℕ → Reader
after_name name opened byte =
    if byte == 32 then at (Spaced name) opened else (if byte == 47 then at Emptied opened else (if byte == 62 then at Text (name ∷ opened) else wrong))

-- the state of a reader after one more byte
abbrev pub after : Place → List (List ℕ) → ℕ → Reader
after Text opened byte = if byte == 60 then at Begun opened else (if is_plain byte || (byte == 10) then at Text opened else wrong)
after Begun opened byte = if byte == 47 then at (Ending []) opened else (if is_name byte then at (Named (byte ∷ [])) opened else wrong)
after (Named name) opened byte = if is_name byte then at (Named (byte ∷ name)) opened else after_name name opened byte
after (Spaced name) opened byte = if is_name byte then at (Keyed name) opened else wrong
after (Keyed name) opened byte = if is_name byte then at (Keyed name) opened else (if byte == 61 then at (Valued name) opened else wrong)
after (Valued name) opened byte = if byte == 39 then at (Quoted name) opened else wrong
after (Quoted name) opened byte = if byte == 39 then at (Unquoted name) opened else (if is_plain byte then at (Quoted name) opened else wrong)
after (Unquoted name) opened byte = after_name name opened byte
after Emptied opened byte = if byte == 62 then at Text opened else wrong
after (Ending name) opened byte = if byte == 62 then closed name opened else (if is_name byte then at (Ending (byte ∷ name)) opened else wrong)
after Wrong opened byte = wrong

abbrev pub reads : List ℕ → Reader → Reader
reads [] reader = reader
reads (byte ∷ more) reader = reads more (after reader.place reader.opened byte)

-- the text can be read, and after it no tag and no element is open that wasn't before
abbrev pub IsClosed : List ℕ → Type 0
IsClosed text = reads text (at Text []) ≡ at Text []

-- each byte is one that XML 1.0 allows in a text ("Characters") and that is ASCII: printable, or a line feed
abbrev pub is_character : ℕ → Bool
is_character byte = (nat_le 32 byte && nat_le byte 126) || (byte == 10)
