-- A failed command has a request, which is done once the port has recovered; and what its log has of it.
use Rattle.std.proofs.Common.{◌≡◌, ℕ, Bool, true, false, not, cond, List, Option, None, Some, IsSomeAnd, refl, ap, sym, subst, ◌∙◌}
use Rattle.std.specs.Option.{option_map}
use Rattle.hba_command.specs.declared.protocol.Protocol.{Protocol}
use Rattle.ncq_journal.specs.Answer.{Answer}
use Rattle.ncq_journal.specs.declared.phase.Phase.{Phase}
use Rattle.ncq_journal.specs.declared.phase.Phase.TheVariants.{Free, Issued, Accepted, Rejected, Broken, Held, Done}
use Rattle.ncq_journal.specs.Entry.{Entry}
use Rattle.ncq_journal.specs.History.{History}
use Rattle.ncq_journal.specs.Numbering.{number_of}
use Rattle.ncq_journal.specs.Phase.{phase, is_failed, recovered}
use Rattle.ncq_journal.specs.Request.{Request, request}
use Rattle.ahci_table.specs.Window.{WindowState}
use Rattle.ahci_port.specs.Faults.{is_accepted}
use Rattle.ahci_port.specs.Headline.{Headline, HasWindow, IsOfRequest}
use Rattle.ahci_port.specs.PortView.{PortView, is_free, owner_of, window_at}
use Rattle.ahci_port.specs.Steps.{IsRecovered, answer_to}
use Rattle.ahci_port.specs.declared.reply.Reply.{Reply}
use Rattle.ahci_hba.specs.Dropping.{handed_out, is_spent, port_after}
use Rattle.ahci_hba.specs.Executing.{paged}
use Rattle.ahci_hba.specs.HbaView.{CommandView, HbaView, DmaView}
use Rattle.ahci_hba.specs.Queueing.{command_at, list_in}
use Rattle.ahci_hba.specs.Recovering.{CollectsFailed, ReadsErrorLog, Recovers, error_log_in, error_page}
use Rattle.ahci_hba.specs.States.{IsSound}
use Rattle.ahci_hba.proofs.ServeLemmas.{owner_by}

failed_is_done : (p : Phase) → is_failed p ≡ true → recovered p ≡ Done
failed_is_done Free e = cc
failed_is_done Issued e = cc
failed_is_done Accepted e = cc
failed_is_done Rejected e = refl
failed_is_done Broken e = refl
failed_is_done Held e = cc
failed_is_done Done e = cc

-- a phase is not Free if a test tells it from Free
not_free : (test : Phase → Bool) (p : Phase) → test Free ≡ false → test p ≡ true → is_free p ≡ false
not_free test Free tells e = cc
not_free test Issued tells e = refl
not_free test Accepted tells e = refl
not_free test Rejected tells e = refl
not_free test Broken tells e = refl
not_free test Held tells e = refl
not_free test Done tells e = refl

has_request : (starting : List ℕ) (past : List Entry) (tag : ℕ) (o : Option WindowState) → HasWindow starting past tag o → is_free (phase past tag) ≡ false → request past tag ≡ None → ⊥
has_request starting past tag None h f e = let free = ap is_free h in cc (free, f)
has_request starting past tag (Some w) h f e = subst (λ o. IsSomeAnd o (IsOfRequest starting past tag w)) e h.3

no_owner : (first : ℕ) (p : Phase) (o : Option Request) → is_free p ≡ false → cond (is_free p) None (option_map (λ r. number_of first r.number) o) ≡ None → o ≡ None
no_owner first p None e h = refl
no_owner first p (Some r) e h = let s = sym (ap (λ b. cond b None (Some (number_of first r.number))) e) ∙ h in cc s

pub failed_is_owned : (old new : PortView) (tag : ℕ) → Headline old → is_failed (phase old.past tag) ≡ true → IsRecovered tag old new → owner_of new tag ≡ None → ⊥
failed_is_owned old new tag h failed is none =
    has_request old.starting old.past tag (window_at old tag) (h.owned tag) (not_free is_failed (phase old.past tag) refl failed)
    (no_owner new.first (recovered (phase old.past tag)) (request old.past tag) (ap is_free (failed_is_done (phase old.past tag) failed))
    (sym (ap (λ l. owner_by new.first l tag) is.appended.past_is) ∙ none))

-- a command that the device has taken has a request
pub accepted_is_owned : (port : PortView) (tag : ℕ) → Headline port → is_accepted (phase port.past tag) ≡ true → owner_of port tag ≡ None → ⊥
accepted_is_owned port tag h accepted none =
    let taken = not_free is_accepted (phase port.past tag) refl accepted in
    has_request port.starting port.past tag (window_at port tag) (h.owned tag) taken (no_owner port.first (phase port.past tag) (request port.past tag) taken none)

depth_after : (b : Bool) (p : PortView) → (port_after b p).depth ≡ p.depth
depth_after true p = refl
depth_after false p = refl

-- the controller is as sound as before
pub still_sound : (tag : ℕ) (reply : Reply) (old collected port : PortView) (depth : ℕ) (slots : List (Option CommandView)) (dma : DmaView) → IsSound old depth slots dma
    → CollectsFailed tag reply old collected → port ≡ port_after (not (is_spent collected)) collected → IsSound port depth slots dma
still_sound tag reply old collected port depth slots dma s f e = record {
  tags =
      ap (λ p. p.depth) e ∙ depth_after (not (is_spent collected)) collected ∙ f.collected.appended.depth_same ∙ f.recovered.appended.depth_same ∙ s.tags;
  whole = s.whole;
  some = s.some;
  most = s.most;
  moving = s.moving;
}

some_map : {X : Type 0} {P Q : X → Type 0} → (o : Option X) → ((x : X) → P x → Q x) → IsSomeAnd o P → IsSomeAnd o Q
some_map None f h = h
some_map (Some x) f h = f x h

-- the log of the failed command goes to the driver
pub reads : (slot : ℕ) (p : Protocol) (h new : HbaView) (collected port : PortView) (tag : ℕ) (reply : Reply) (page : List ℕ) (j : Option History) → error_log_in (command_at h slot) ≡ Some p
    → CollectsFailed tag reply h.port collected → port ≡ port_after (not (is_spent collected)) collected → j ≡ handed_out (not (is_spent collected)) collected
    → page ≡ error_page tag reply.outcome → new ≡ paged (record h { port = port }) slot p (list_in (command_at h slot)) page → ReadsErrorLog slot h new j
reads slot p h new collected port tag reply page j asks f reset handed is made =
    subst (λ o. IsSomeAnd o (λ x. Recovers slot x (list_in (command_at h slot)) h new j)) (sym asks) (record {
      tag = tag;
      number = f.number;
      middle = f.middle;
      port = collected;
      recovered = f.recovered;
      owner = f.owner;
      collected = f.collected;
      answered = some_map (answer_to f.middle f.number) told f.answered;
      handed = handed;
    })
  where
    told : (a : Answer) → a.outcome ≡ reply.outcome
        → new ≡ paged (record h { port = port_after (not (is_spent collected)) collected }) slot p (list_in (command_at h slot)) (error_page tag a.outcome)
    told a same =
        made ∙ ap (λ x. paged (record h { port = port }) slot p (list_in (command_at h slot)) x) (is ∙ sym (ap (λ o. error_page tag o) same))
        ∙ ap {A = PortView} {B = HbaView} (λ x. paged (record h { port = x }) slot p (list_in (command_at h slot)) (error_page tag a.outcome)) reset
