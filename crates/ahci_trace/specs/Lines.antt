-- Which lines of a trace are notes; the others are what the script alone answers.
use Rattle.std.specs.Prelude.{◌≡◌, ℕ, ◌+◌, ◌==◌, Bool, true, not, List, [], ◌∷◌, ◌++◌, Option}
use Rattle.std.specs.List.{list_all}
use Rattle.ahci_port.specs.PortView.{PortView}
use Rattle.ahci_replay.specs.Transcript.{Adds, answers_alone}
use Rattle.ahci_script.specs.Answers.{answer_text}
use Rattle.ahci_script.specs.Said.{Said}
use Rattle.json.specs.Print.{print}
use Rattle.ahci_trace.specs.Json.{command_object, json_line}
use Rattle.ahci_trace.specs.Text.{trace_text}
use Rattle.ahci_trace.specs.Trace.{Told}

-- no line feed is among these bytes
abbrev pub is_line : List ℕ → Bool
is_line bytes = list_all (λ b. not (b == 10)) bytes

-- lines, each of which begins with two spaces and ends in its only line feed
pub data AreNotes : List ℕ → Type 0 where
  no_note : AreNotes []
  a_note : (line more : List ℕ) → is_line line ≡ true → AreNotes more → AreNotes (32 ∷ 32 ∷ (line ++ 10 ∷ more))

-- a text of answers, with notes after each, and the answers alone
pub data Noted : List ℕ → List ℕ → Type 0 where
  no_answer : Noted [] []
  an_answer : (answer notes text answers : List ℕ) → AreNotes notes → Noted text answers → Noted (answer ++ 10 ∷ (notes ++ text)) (answer ++ 10 ∷ answers)

-- what a script's lines add to a trace is what they add alone, with notes after each answer
abbrev pub KeepsAnswers : Type 0
KeepsAnswers = (number : ℕ) (port last : Option PortView) (lines : List (List ℕ)) (text : List ℕ) → Adds trace_text number port lines text last
    → (answers : List ℕ) × Adds answers_alone number port lines answers last × Noted text answers

-- lines from a number on, the text of objects, and the answers alone: a line adds nothing, or one object with its number, its text and
-- its answer
pub data Objects : ℕ → List (List ℕ) → List ℕ → List ℕ → Type 0 where
  no_object : (number : ℕ) → Objects number [] [] []
  a_skipped : (number : ℕ) (line : List ℕ) (more : List (List ℕ)) (text answers : List ℕ) → Objects (number + 1) more text answers → Objects number (line ∷ more) text answers
  an_object : (number : ℕ) (line : List ℕ) (more : List (List ℕ)) (said : Said) (told : Told) (text answers : List ℕ) → Objects (number + 1) more text answers
      → Objects number (line ∷ more) (print (command_object number line said told) ++ 10 ∷ text) (answer_text said ++ 10 ∷ answers)

-- what a script's lines add to a trace as JSON is an object for each answer that they add alone, in their order
abbrev pub HasObjects : Type 0
HasObjects = (number : ℕ) (port last : Option PortView) (lines : List (List ℕ)) (text : List ℕ) → Adds json_line number port lines text last
    → (answers : List ℕ) × Adds answers_alone number port lines answers last × Objects number lines text answers
