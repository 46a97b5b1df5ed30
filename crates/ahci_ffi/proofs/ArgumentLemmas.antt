-- What remains of a call's reasons once its arguments are looked at.
use Rattle.std.proofs.Common.{◌≡◌, ◌∙◌, ℕ, ◌<◌, cond, List, Option, None, Some, Ok, Err, ap, subst, sym}
use Rattle.std.proofs.lemmas.Bool.{eq-eqb, lt-ltb}
use Rattle.std.specs.Option.{option_or}
use Rattle.ahci_port.specs.Faults.{early_refusal}
use Rattle.ahci_port.specs.PortView.{PortView}
use Rattle.ahci_port.specs.Refusals.{of_issue}
use Rattle.ahci_port.specs.declared.fault.IssueFault.{IssueFault}
use Rattle.ahci_table.specs.Window.{WindowState}
use Rattle.ahci_ffi.specs.Asked.{AnswersUnless, issue_refused}
use Rattle.ahci_ffi.specs.Status.{refused}
use Rattle.ahci_ffi.specs.Making.{Makes}
use Rattle.ahci_ffi.specs.Refusals.{most_tags, with_length, with_tag}
use Rattle.port_refusal.specs.declared.refusal.Refusal.TheVariants as refusal
use Rattle.ahci_ffi.specs.declared.status.Status.{Status}
use Rattle.ahci_ffi.specs.declared.status.Status.TheVariants as status

-- the tag is below 32
pub with_small : (tag : ℕ) (reason : Option Status) → tag < most_tags → with_tag tag reason ≡ reason
with_small tag reason small = ap (λ b. cond b reason (Some status.BadTag)) (lt-ltb tag most_tags small)

-- the buffer has the length that is wanted
pub with_whole : (wanted len : ℕ) (reason : Option Status) → len ≡ wanted → with_length wanted len reason ≡ reason
with_whole wanted len reason is = ap (λ b. cond b reason (Some status.WrongLength)) (eq-eqb len wanted is)

-- a window was made of its arguments, and the call was answered on it
pub on_window : (reason : Option Status) (w window : WindowState) (answer : Status) (answered : WindowState → Type 0) (same : Type 0)
    → Makes reason (Ok w) (λ x. x ≡ window) → answered w → AnswersUnless reason answer (answered window) same
on_window None w window answer answered same is so = subst answered is so
on_window (Some reason) w window answer answered same is so = absurd (cc)

-- none was made
pub no_window : (reason : Option Status) (answer : Status) (made : WindowState → Type 0) (answered same : Type 0)
    → Makes reason (Err answer) made → (answer ≡ status.Refused refusal.OutOfMemory → answered) → same → AnswersUnless reason answer answered same
no_window None answer made answered same is lacks s = lacks is
no_window (Some reason) answer made answered same is lacks s = let told : answer ≡ reason = cc in (told, s)

-- a tag and a header are of their sizes, or not
pub on_sized : (reason : Option Status) (answer : Status) (answered same : Type 0) → reason ≡ None → answered → AnswersUnless reason answer answered same
on_sized reason answer answered same is so = subst (λ r. AnswersUnless r answer answered same) (sym is) so

pub on_unsized : (reason : Option Status) (why answer : Status) (answered same : Type 0) → reason ≡ Some why → answer ≡ why → same
    → AnswersUnless reason answer answered same
on_unsized reason why answer answered same is told s = subst (λ r. AnswersUnless r answer answered same) (sym is) (told, s)

-- a window over a tag and a header that C has named
pub window_named : (w : WindowState) (t tag : ℕ) (h header memory : List ℕ) → w ≡ record { tag = t; header = h; bytes = memory } → t ≡ tag → h ≡ header
    → w ≡ record { tag = tag; header = header; bytes = memory }
window_named w t tag h header memory is same_tag same_header =
    is ∙ ap (λ x. record { tag = x; header = h; bytes = memory }) same_tag ∙ ap (λ x. record { tag = tag; header = x; bytes = memory }) same_header

-- what is said of the tag is looked at once the arguments are of their sizes
pub asked_none : (port : PortView) (tag header : ℕ) → with_tag tag (with_length 32 header None) ≡ None → early_refusal port tag ≡ None → issue_refused port tag header ≡ None
asked_none port tag header sized early =
    ap (λ r. option_or r (refused of_issue (early_refusal port tag))) sized ∙ ap (λ e. refused of_issue e) early

pub asked_some : (port : PortView) (tag header : ℕ) (fault : IssueFault) → with_tag tag (with_length 32 header None) ≡ None → early_refusal port tag ≡ Some fault
    → issue_refused port tag header ≡ Some (status.Refused (of_issue fault))
asked_some port tag header fault sized early =
    ap (λ r. option_or r (refused of_issue (early_refusal port tag))) sized ∙ ap (λ e. refused of_issue e) early

pub asked_sized : (port : PortView) (tag header : ℕ) (why : Status) → with_tag tag (with_length 32 header None) ≡ Some why → issue_refused port tag header ≡ Some why
asked_sized port tag header why unsized = ap (λ r. option_or r (refused of_issue (early_refusal port tag))) unsized
