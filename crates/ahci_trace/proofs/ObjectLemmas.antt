-- A trace as JSON has an object for each answer.
use Rattle.std.proofs.Common.{ℕ, ◌+◌, List, [], ◌∷◌, ◌++◌, sym, refl, subst, append_assoc}
use Rattle.ahci_replay.specs.Transcript.{no_line, one_more}
use Rattle.ahci_script.specs.Answers.{answer_text}
use Rattle.ahci_script.specs.Said.{Said}
use Rattle.ahci_script.specs.declared.line.Line.TheVariants as line
use Rattle.json.specs.Print.{print}
use Rattle.ahci_trace.specs.Json.{command_object}
use Rattle.ahci_trace.specs.Lines.{HasObjects, Objects, a_skipped, an_object, no_object}
use Rattle.ahci_trace.specs.Trace.{Told, told_between}

-- one more object before others
one_more_object : (number : ℕ) (first : List ℕ) (more : List (List ℕ)) (said : Said) (told : Told) (text answers : List ℕ) → Objects (number + 1) more text answers
    → Objects number (first ∷ more) ((print (command_object number first said told) ++ 10 ∷ []) ++ text) ((answer_text said ++ 10 ∷ []) ++ answers)
one_more_object number first more said told text answers others =
    subst (λ t. Objects number (first ∷ more) t ((answer_text said ++ 10 ∷ []) ++ answers)) (sym (append_assoc (print (command_object number first said told)) (10 ∷ []) text))
    (subst (λ t. Objects number (first ∷ more) (print (command_object number first said told) ++ 10 ∷ text) t) (sym (append_assoc (answer_text said) (10 ∷ []) answers))
    (an_object number first more said told text answers others))

pub has_objects : HasObjects
has_objects _ _ _ _ _ (no_line number port) = ([], no_line number port, no_object number)
has_objects _ _ last _ _ (one_more number port first line.Skip next added more text _ fed is ran others) =
    let (answers, adds, so_far) = has_objects (number + 1) next last more text others in (
      answers,
      one_more number port first line.Skip next [] more answers last fed is (ran.0, refl) adds,
      subst (λ a. Objects number (first ∷ more) (a ++ text) answers) (sym ran.1) (a_skipped number first more text answers so_far),
    )
has_objects _ _ last _ _ (one_more number port first (line.Run command) next added more text _ fed is ran others) =
    let (answers, adds, so_far) = has_objects (number + 1) next last more text others in
    let answer = answer_text ran.said in (
      (answer ++ 10 ∷ []) ++ answers,
      one_more number port first (line.Run command) next (answer ++ 10 ∷ []) more answers last fed is (record { said = ran.said; ran = ran.ran; spelled = refl }) adds,
      subst (λ a. Objects number (first ∷ more) (a ++ text) ((answer ++ 10 ∷ []) ++ answers)) (sym ran.spelled)
          (one_more_object number first more ran.said (told_between port next) text answers so_far),
    )
