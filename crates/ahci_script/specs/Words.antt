-- How a script's line falls into words, and what a word has to be.
use Rattle.std.specs.Prelude.{ℕ, ◌+◌, ◌==◌, List, [], ◌∷◌, Option, Some, None, Result, Ok, Err, position, option_map, take, drop, if◌then◌else◌}
use Rattle.ahci_script.specs.Breaches.{◌>>=◌, breach_at}
use Rattle.ahci_script.specs.declared.breach.Breach.{Breach}
use Rattle.ahci_script.specs.declared.fault.Fault.{Fault}
use Rattle.ahci_script.specs.declared.fault.Fault.TheVariants.{MissingWord, SpareSpace, SpareWord}

-- what is left of a line after some of its words: nothing, or a text after a space
abbrev pub Rest : Type 0
Rest = Option (List ℕ)

-- the text before its first space, and the text after that space
abbrev pub cut_of : List ℕ → Option (List ℕ × List ℕ)
cut_of text = option_map (λ i. (take i text, drop (i + 1) text)) (position (λ b. b == 32) text)

-- the first word of a text, and what is left after it
abbrev pub first_at : Option (List ℕ × List ℕ) → List ℕ → List ℕ × Rest
first_at None text = (text, None)
first_at (Some c) text = (c.0, Some c.1)

abbrev pub first_of : List ℕ → List ℕ × Rest
first_of text = first_at (cut_of text) text

-- the words after the first, none where it is alone
abbrev pub after_cut : Option (List ℕ × List ℕ) → List ℕ
after_cut None = []
after_cut (Some c) = c.1

abbrev pub after_first : List ℕ → List ℕ
after_first words = after_cut (cut_of words)

-- a word that isn't empty, the text that begins with it, and what is left after it. An empty one is a space too many, at the
-- end of the line too
abbrev pub next_at : List ℕ → List ℕ → Rest → Result (List ℕ × List ℕ × Rest) Breach
next_at text [] rest = Err (breach_at text SpareSpace)
next_at text (b ∷ bs) rest = Ok (text, b ∷ bs, rest)

unfoldable pub next_of : Rest → Result (List ℕ × List ℕ × Rest) Breach
next_of None = Err (breach_at [] MissingWord)
next_of (Some text) = next_at text (first_of text).0 (first_of text).1

-- a rule that a word breaks is broken where the word begins
abbrev pub placed : {T : Type 0} → List ℕ → Rest → Result T Fault → Result (T × Rest) Breach
placed text rest (Ok value) = Ok (value, rest)
placed text rest (Err fault) = Err (breach_at text fault)

-- what the next word spells, and what is left after it
unfoldable pub word_of : {T : Type 0} → (List ℕ → Result T Fault) → Rest → Result (T × Rest) Breach
word_of spelled rest = do
  w ← next_of rest
  placed w.0 w.2 (spelled w.1)

-- what comes after the last word; an empty word is a space too many
abbrev pub spare : List ℕ → Breach
spare [] = breach_at [] SpareSpace
spare (b ∷ bs) = if b == 32 then breach_at (b ∷ bs) SpareSpace else breach_at (b ∷ bs) SpareWord

-- nothing is left
abbrev pub ends : Rest → Result (Unit {0}) Breach
ends None = Ok tt
ends (Some text) = Err (spare text)
