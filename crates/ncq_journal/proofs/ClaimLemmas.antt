-- A pass over a journal that holds each answer against what is claimed, and keeps none.
use Rattle.std.proofs.Common.{◌≡◌, ℕ, ◌<◌, ◌≤◌, Bool, false, List, [], length, set, replicate, get_or, get_or-set_same, get_or-set_other, length-set, ap, sym, subst, ◌∙◌, Option, None, Some, take, arith, inl, inr}
use Rattle.std.specs.Prelude.{◌↔◌, IsTrue}
use Rattle.std.proofs.lemmas.Bool.{cases_eq}
use Rattle.std.proofs.lemmas.List.{get_or-replicate, length-replicate}
use Rattle.ncq_journal.specs.Answer.{Answer, answer}
use Rattle.ncq_journal.specs.Claims.{AreJudged, Holds}
use Rattle.ncq_journal.specs.Entry.{Entry}
use Rattle.ncq_journal.specs.History.{history_of}
use Rattle.ncq_journal.proofs.HistoryLemmas.{history_all, length_history}
use Rattle.ncq_journal.proofs.PassLemmas.{IsPassed, passed_none}
use Rattle.ncq_journal.specs.declared.event.Event.{Event}

-- what a pass over a journal with so many entries knows: the answers so far, which it doesn't keep, and which claims they bear out
pub record IsJudging (image : List ℕ) (past : List Entry) (total depth : ℕ) (now : List ℕ) (requests : List (Option ℕ)) (claims : List (Option Answer)) (holding : List Bool) : Type 0 where
  pub answers : List (Option Answer)
  pub passed : IsPassed image past total depth now requests answers
  pub count : length holding ≡ total
  pub each : (n : ℕ) → n < total → IsTrue (get_or holding n false) ↔ Holds (get_or claims n None) (get_or answers n None)

-- nothing that is claimed holds of a request without an answer
holds_none : (claim : Option Answer) → IsTrue false ↔ Holds claim None
holds_none None = (λ t. absurd (cc), λ h. absurd h)
holds_none (Some c) = (λ t. absurd (cc), λ h. absurd (cc))

-- the beginning of the pass
pub judging_none : (image : List ℕ) (total depth : ℕ) (claims : List (Option Answer)) → IsJudging image [] total depth image (replicate depth None) claims (replicate total false)
judging_none image total depth claims = record {
  answers = replicate total None;
  passed = passed_none image total depth;
  count = length-replicate total false;
  each = λ n low.
      subst (λ b. IsTrue b ↔ Holds (get_or claims n None) (get_or (replicate total None) n None)) (sym (get_or-replicate total n false false low))
      (subst (λ a. IsTrue false ↔ Holds (get_or claims n None) a) (sym (get_or-replicate total n None None low)) (holds_none (get_or claims n None)));
}

-- an entry that answers nothing
pub judging_on : (image : List ℕ) (past more : List Entry) (total depth : ℕ) (now new : List ℕ) (requests asked : List (Option ℕ)) (claims : List (Option Answer)) (holding : List Bool)
    → (j : IsJudging image past total depth now requests claims holding) → IsPassed image more total depth new asked j.answers
    → IsJudging image more total depth new asked claims holding
judging_on image past more total depth now new requests asked claims holding j p = record { answers = j.answers; passed = p; count = j.count; each = j.each }

-- an entry that answers a request
pub judging_answer : (image : List ℕ) (past more : List Entry) (total depth m : ℕ) (a : Answer) (b : Bool) (now new : List ℕ) (requests asked : List (Option ℕ))
    (claims : List (Option Answer)) (holding : List Bool) → (j : IsJudging image past total depth now requests claims holding) → m < length j.answers
    → (IsTrue b ↔ Holds (get_or claims m None) (Some a)) → IsPassed image more total depth new asked (set j.answers m (Some a))
    → IsJudging image more total depth new asked claims (set holding m b)
judging_answer image past more total depth m a b now new requests asked claims holding j low h p = record {
  answers = set j.answers m (Some a);
  passed = p;
  count = length-set holding m b ∙ j.count;
  each = each;
}
  where
    each : (n : ℕ) → n < total → IsTrue (get_or (set holding m b) n false) ↔ Holds (get_or claims n None) (get_or (set j.answers m (Some a)) n None)
    each n inside = elim (cases_eq n m) [
      | inl here ↦
          subst (λ k. IsTrue (get_or (set holding m b) k false) ↔ Holds (get_or claims k None) (get_or (set j.answers m (Some a)) k None)) (sym here)
          (subst (λ x. IsTrue x ↔ Holds (get_or claims m None) (get_or (set j.answers m (Some a)) m None))
          (sym (get_or-set_same holding m b false (let c = j.count in let d = j.passed.count in omega arith)))
          (subst (λ x. IsTrue b ↔ Holds (get_or claims m None) x) (sym (get_or-set_same j.answers m (Some a) None low)) h))
      | inr other ↦
          subst (λ x. IsTrue x ↔ Holds (get_or claims n None) (get_or (set j.answers m (Some a)) n None)) (sym (get_or-set_other holding m n b false other))
          (subst (λ x. IsTrue (get_or holding n false) ↔ Holds (get_or claims n None) x) (sym (get_or-set_other j.answers m n (Some a) None other)) (j.each n inside))
    ]

-- the pass has gone over all events
pub judged_all : {A : _} (image : List ℕ) (events : List (Event A)) (depth i : ℕ) (now : List ℕ) (requests : List (Option ℕ)) (claims : List (Option Answer)) (holding : List Bool)
    → length events ≤ i → IsJudging image (history_of (take i events)) (length events) depth now requests claims holding → AreJudged image (history_of events) claims holding
judged_all image events depth i now requests claims holding done j = record {
  count = j.count ∙ sym (length_history events);
  each = λ n low.
      let inside : n < length events = (let l = length_history events in omega arith) in
      subst (λ a. IsTrue (get_or holding n false) ↔ Holds (get_or claims n None) a)
      (j.passed.each n inside ∙ ap (λ h. answer image h n) (history_all events i done)) (j.each n inside);
}
