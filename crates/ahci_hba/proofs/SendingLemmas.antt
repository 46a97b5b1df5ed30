-- A command that was taken out of its slot is sent, or is there again.
use Rattle.std.proofs.Common.{◌≡◌, ℕ, zero, suc, false, List, [], ◌∷◌, set, Option, None, Some, Result, Ok, Err, OnOk, OnErr, refl, ap, sym, subst, ◌∙◌}
use Rattle.std.proofs.lemmas.List.{set-get_or}
use Rattle.hba_command.specs.declared.entry.PrdEntry.{PrdEntry}
use Rattle.hba_command.specs.declared.task.Task.{Task}
use Rattle.ahci_table.specs.declared.piece_layout.PieceLayout.TheVariants as layout
use Rattle.ncq_journal.specs.Work.{Work}
use Rattle.ahci_port.specs.PortView.{PortView}
use Rattle.ahci_port.specs.Steps.{IsSubmitted}
use Rattle.ahci_hba.specs.HbaView.{CommandView, Fetched, Sent, HbaView}
use Rattle.ahci_hba.specs.Queueing.{IsSent, Sends, asked_for, command_at}

-- of two writes to one place the later one holds
pub set_twice : {X : Type 0} → (l : List X) (i : ℕ) (a b : X) → set (set l i a) i b ≡ set l i b
set_twice [] zero a b = refl
set_twice [] (suc i) a b = refl
set_twice (x ∷ l) zero a b = refl
set_twice (x ∷ l) (suc i) a b = ap (λ y. x ∷ y) (set_twice l i a b)

pub sent_by_port : (slot tag : ℕ) (t : Task) (list : List PrdEntry) (bytes : List ℕ) (h new : HbaView) (port : PortView) (work : Work)
    → tag ≡ slot → IsSubmitted tag work false layout.Packed h.port port → work ≡ asked_for t bytes
    → new ≡ record h { port = port; slots = set h.slots slot (Some (Sent t list)) } → IsSent slot t list bytes h new
sent_by_port slot tag t list bytes h new port work same submitted asked made = record {
  port = port;
  submitted = subst (λ w. IsSubmitted slot w false layout.Packed h.port port) asked (subst (λ n. IsSubmitted n work false layout.Packed h.port port) same submitted);
  sent = made;
}

pub sends : (slot : ℕ) (t : Task) (list : List PrdEntry) (bytes : List ℕ) (h taken new : HbaView) → command_at h slot ≡ Some (Fetched t list bytes)
    → taken ≡ record h { slots = set h.slots slot None } → IsSent slot t list bytes taken new → Sends slot (command_at h slot) h new
sends slot t list bytes h taken new there was sent =
    subst (λ c. Sends slot c h new) (sym there) (record {
      port = sent.port;
      submitted = subst (λ p. IsSubmitted slot (asked_for t bytes) false layout.Packed p sent.port) (ap (λ v. v.port) was) sent.submitted;
      sent =
          sent.sent
          ∙ ap {A = HbaView} {B = HbaView} (λ v. record v { port = sent.port; slots = set v.slots slot (Some (Sent t list)) }) was
          ∙ ap {A = List (Option CommandView)} {B = HbaView} (λ s. record h { port = sent.port; slots = s }) (set_twice h.slots slot None (Some (Sent t list)));
    })

pub stands_again : (slot : ℕ) (t : Task) (list : List PrdEntry) (bytes : List ℕ) (h taken new : HbaView) → command_at h slot ≡ Some (Fetched t list bytes)
    → taken ≡ record h { slots = set h.slots slot None } → new ≡ record taken { slots = set taken.slots slot (Some (Fetched t list bytes)) } → new ≡ h
stands_again slot t list bytes h taken new there was made =
    made
    ∙ ap {A = HbaView} {B = HbaView} (λ v. record v { slots = set v.slots slot (Some (Fetched t list bytes)) }) was
    ∙ ap {A = List (Option CommandView)} {B = HbaView} (λ s. record h { slots = s })
    (set_twice h.slots slot None (Some (Fetched t list bytes)) ∙ ap (λ c. set h.slots slot c) (sym there) ∙ set-get_or h.slots slot None)

-- what follows from one outcome follows from a fact that it has
pub on_ok : {T E P Q : Type 0} → (r : Result T E) → (P → Q) → OnOk r P → OnOk r Q
on_ok (Ok x) f h = f h
on_ok (Err e) f h = tt

pub on_err : {T E P Q : Type 0} → (r : Result T E) → (P → Q) → OnErr r P → OnErr r Q
on_err (Ok x) f h = tt
on_err (Err e) f h = f h
