-- A request that is answered as a read is one, so its window's text is as long as what it reads.
use Rattle.std.proofs.Common.{◌≡◌, ℕ, Bool, true, false, ◌==◌, cond, List, [], ◌∷◌, length, ap, sym, refl, subst, ◌∙◌, Option, None, Some, IsSomeAnd}
use Rattle.std.specs.Option.{option_and_then, option_map, option_or}
use Rattle.std.proofs.lemmas.Option.{same_Some}
use Rattle.ncq_journal.specs.declared.outcome.Outcome.TheVariants as outcome
use Rattle.ncq_journal.specs.Answer.{Answer, answer, given, completes}
use Rattle.ncq_journal.specs.Entry.{Entry, Issue, Complete, Fail}
use Rattle.ncq_journal.specs.History.{entry_at}
use Rattle.ncq_journal.specs.Image.{is_write}
use Rattle.ncq_journal.specs.Numbering.{answer_numbered, number_of}
use Rattle.ncq_journal.specs.Phase.{phase}
use Rattle.ncq_journal.specs.Request.{Request, request}
use Rattle.ncq_journal.specs.Work.{Work, Read, Write}
use Rattle.ncq_journal.proofs.EntryLemmas.{entry_at-older, entry_at-within, request_is_its_issue}
use Rattle.ncq_journal.proofs.NumberLemmas.{place_from}
use Rattle.ahci_table.specs.Command.{queued_of}
use Rattle.ahci_table.specs.Text.{text}
use Rattle.ahci_table.specs.Window.{WindowState}
use Rattle.ahci_port.specs.Faults.{collect_refusal}
use Rattle.ahci_port.specs.Headline.{Headline, HasWindow, IsOfRequest}
use Rattle.ahci_port.specs.Looking.{read_by, read_of, read_length}
use Rattle.ahci_port.specs.PortView.{PortView, is_free, owner_of, window_at}
use Rattle.ahci_port.specs.Steps.{answer_to}
use Rattle.ahci_port.proofs.CollectingLemmas.{none_left}
use Rattle.ahci_port.proofs.MemoryLemmas.{fit_sized}
use Rattle.ahci_port.proofs.WorkLemmas.{op_direction, op_read}

-- an entry that issues a read
abbrev IssuesRead : Option Entry → Type 0
IssuesRead (Some (Issue tag work)) = is_write work ≡ false
IssuesRead o = ⊥

completed_read : (image : List ℕ) (past : List Entry) (work : Work) (b : Bool) (a : Answer)
    → cond b (Some (completes image past work)) None ≡ Some a → a.outcome ≡ outcome.Read → is_write work ≡ false
completed_read image past (Read lba sectors) b a e r = refl
completed_read image past (Write lba bytes) true a e r = absurd (let z : outcome.Wrote ≡ outcome.Read = ap (λ (x : Answer). x.outcome) (same_Some _ a e) ∙ r in cc)
completed_read image past (Write lba bytes) false a e r = absurd (cc)

failed_read : (past : List Entry) (error lba : ℕ) (b : Bool) (a : Answer)
    → cond b (Some (record { entry = length past; outcome = outcome.Failed error lba; bytes = [] })) None ≡ Some a → a.outcome ≡ outcome.Read → ⊥
failed_read past error lba true a e r = let z : outcome.Failed error lba ≡ outcome.Read = ap (λ (x : Answer). x.outcome) (same_Some _ a e) ∙ r in cc
failed_read past error lba false a e r = cc

given_read : (image : List ℕ) (past : List Entry) (entry : Entry) (issue : Option Entry) (a : Answer)
    → given image past entry issue ≡ Some a → a.outcome ≡ outcome.Read → IssuesRead issue
given_read image past (Complete t) (Some (Issue tag work)) a e r = completed_read image past work (t == tag) a e r
given_read image past (Fail t error lba) (Some (Issue tag work)) a e r = absurd (failed_read past error lba (t == tag) a e r)
given_read image past entry issue a e r = absurd (cc)

newer : (past : List Entry) (entry : Entry) (n : ℕ) (issue : Option Entry) → entry_at past n ≡ issue → IssuesRead issue → IssuesRead (entry_at (entry ∷ past) n)
newer past entry n None q h = absurd h
newer past entry n (Some e) q h = subst IssuesRead (sym (entry_at-older past entry n (entry_at-within past n e q) ∙ q)) h

read_answer : (image : List ℕ) (past : List Entry) (n : ℕ) (a : Answer) → answer image past n ≡ Some a → a.outcome ≡ outcome.Read → IssuesRead (entry_at past n)
read_answer image [] n a e r = absurd (cc)
read_answer image (entry ∷ past) n a e r = newer past entry n (entry_at past n) refl (by (answer image past n) refl e (λ q. read_answer image past n a q r))
  where
    by : (o : Option Answer) → answer image past n ≡ o → option_or o (given image past entry (entry_at past n)) ≡ Some a
        → (answer image past n ≡ Some a → IssuesRead (entry_at past n)) → IssuesRead (entry_at past n)
    by (Some b) q h older = older (q ∙ h)
    by None q h older = given_read image past entry (entry_at past n) a h r

-- the same of an answer with the number of its entry
numbered_read : (image : List ℕ) (past : List Entry) (first place : ℕ) (a : Answer) → option_map (answer_numbered first) (answer image past place) ≡ Some a
    → a.outcome ≡ outcome.Read → IssuesRead (entry_at past place)
numbered_read image past first place a e r = by (answer image past place) refl e
  where
    by : (o : Option Answer) → answer image past place ≡ o → option_map (answer_numbered first) o ≡ Some a → IssuesRead (entry_at past place)
    by None q h = absurd (cc)
    by (Some b) q h = read_answer image past place b q (ap (λ (x : Answer). x.outcome) (same_Some _ a h) ∙ r)

-- a tag's slot is owned by the request of this number
owned_by : (b : Bool) (o : Option Request) (first number : ℕ) → cond b None (option_map (λ r. number_of first r.number) o) ≡ Some number
    → (b ≡ false) × IsSomeAnd o (λ r. number_of first r.number ≡ number)
owned_by true o first number e = absurd (cc)
owned_by false None first number e = absurd (cc)
owned_by false (Some r) first number e = (refl, same_Some _ _ e)

-- what a tag's request reads is as long as the text of its window, where it has ended as a read
pub reads_text : (port : PortView) (tag number : ℕ) (w : WindowState) (a : Answer) → Headline port → collect_refusal port tag number ≡ None → answer_to port number ≡ Some a
    → window_at port tag ≡ Some w → a.outcome ≡ outcome.Read → read_length port.past tag ≡ Some (length (text w))
reads_text port tag number w a h none e here r = asked (request port.past tag) refl owner.1 owned.3
  where
    owner : (is_free (phase port.past tag) ≡ false) × IsSomeAnd (request port.past tag) (λ r. number_of port.first r.number ≡ number)
    owner = owned_by (is_free (phase port.past tag)) (request port.past tag) port.first number (none_left (owner_of port tag) (phase port.past tag) number none).0

    owned : HasWindow port.starting port.past tag (Some w)
    owned = subst (HasWindow port.starting port.past tag) here (h.owned tag)

    asked : (o : Option Request) → request port.past tag ≡ o → IsSomeAnd o (λ r. number_of port.first r.number ≡ number)
        → IsSomeAnd o (IsOfRequest port.starting port.past tag w) → read_length port.past tag ≡ Some (length (text w))
    asked None q x y = absurd y
    asked (Some req) q x y =
        let given = sym (ap (λ p. option_map (answer_numbered port.first) (option_and_then (answer port.starting port.past) p)) (place_from port.first number req.number (sym x))) ∙ e in
        let read : is_write req.work ≡ false =
        subst IssuesRead (request_is_its_issue port.past tag req q) (numbered_read port.starting port.past port.first req.number a given r) in
        let direction : (queued_of w).write ≡ false = sym (op_direction w) ∙ ap is_write y.work ∙ read in
        ap (λ b. cond b None (read_by (request port.past tag))) owner.0 ∙ ap read_by q ∙ ap read_of (sym y.work ∙ op_read w direction)
        ∙ ap (λ n. Some n) (sym (fit_sized w owned.1))
