-- After a trim the headline holds over both parts of the history.
use Rattle.std.proofs.Common.{◌≡◌, ℕ, ◌/◌, ◌≤◌, Bool, true, false, cond, List, [], ◌∷◌, ◌++◌, length, ap, sym, refl, subst, ◌∙◌, Option, None, Some, IsSomeAnd}
use Rattle.std.specs.Option.{option_map}
use Rattle.ahci_table.specs.Window.{WindowState}
use Rattle.ncq_core.specs.DiskState.{DiskError}
use Rattle.ncq_journal.specs.Answer.{Answer, answer}
use Rattle.ncq_journal.specs.Entry.{Entry, Issue, Accept, Complete, Fail, Recover, Reissue, Collect, Unqueued, Zero}
use Rattle.ncq_journal.specs.Halted.{halted}
use Rattle.ncq_journal.specs.Image.{sector_at}
use Rattle.ncq_journal.specs.Lawful.{IsLawful}
use Rattle.ncq_journal.specs.Laws.{AllFree}
use Rattle.ncq_journal.specs.Numbering.{answer_numbered}
use Rattle.ncq_journal.specs.Phase.{phase, is_failed}
use Rattle.ncq_journal.specs.Request.{Request, request}
use Rattle.ncq_journal.specs.Sector.{sector}
use Rattle.ncq_journal.proofs.CutLemmas.{answer_of_parts, ci_of_parts, device_tags_of_parts, lawful_of_parts, request_of_parts, sact_of_parts}
use Rattle.ncq_journal.proofs.PartLemmas.{halted_parts, phase_parts, two_parts}
use Rattle.ahci_port.specs.Headline.{Headline, HasWindow, HoldsBytes, IsOfRequest}
use Rattle.ahci_port.specs.PortView.{PortView, window_at}
use Rattle.ahci_port.specs.Standing.{last_failure, standing}
use Rattle.ahci_port.proofs.FailureLemmas.{failed_tag}

-- the last failure of a part that has one is that of both
last_of_parts : (later past : List Entry) (P : DiskError → Type 0) → IsSomeAnd (last_failure later) P → last_failure (later ++ past) ≡ last_failure later
last_of_parts [] past P some = absurd some
last_of_parts (Fail t error lba ∷ later) past P some = refl
last_of_parts (Issue t work ∷ later) past P some = last_of_parts later past P some
last_of_parts (Accept t ∷ later) past P some = last_of_parts later past P some
last_of_parts (Complete t ∷ later) past P some = last_of_parts later past P some
last_of_parts (Recover t ∷ later) past P some = last_of_parts later past P some
last_of_parts (Reissue t ∷ later) past P some = last_of_parts later past P some
last_of_parts (Collect t ∷ later) past P some = last_of_parts later past P some
last_of_parts (Unqueued command ∷ later) past P some = last_of_parts later past P some
last_of_parts (Zero lba sectors ∷ later) past P some = last_of_parts later past P some

-- the error condition after both parts is that of the later one
standing_of_parts : (s d : ℕ) (later past : List Entry) → d ≤ 32 → IsLawful s d later → AllFree past → standing (later ++ past) ≡ standing later
standing_of_parts s d later past few own free = ap (λ b. cond b (last_failure (later ++ past)) None) (halted_parts later past free) ∙ by (halted later) refl
  where
    by : (b : Bool) → halted later ≡ b → cond (halted later) (last_failure (later ++ past)) None ≡ cond (halted later) (last_failure later) None
    by false e = ap (λ b. cond b (last_failure (later ++ past)) None) e ∙ sym (ap (λ b. cond b (last_failure later) None) e)
    by true e = ap (λ o. cond (halted later) o None) (last_of_parts later past (λ f. is_failed (phase later f.tag) ≡ true) (failed_tag s d later few own e))

-- the number of its entry makes no difference to what a window holds of an answer
holds_numbered : (k : ℕ) (w : WindowState) (o : Option Answer) → IsSomeAnd o (λ a. HoldsBytes a.outcome a.bytes w)
    → IsSomeAnd (option_map (answer_numbered k) o) (λ a. HoldsBytes a.outcome a.bytes w)
holds_numbered k w None h = absurd h
holds_numbered k w (Some a) h = h

-- a window that is that of a request of the later part is that of the same request of both
request_of_both : (s d : ℕ) (starting middle : List ℕ) (later past : List Entry) (tag : ℕ) (w : WindowState) (o : Option Request) → IsLawful s d (later ++ past) → AllFree past
    → ((i : ℕ) → sector_at middle i ≡ sector starting past i) → request later tag ≡ o → IsSomeAnd o (IsOfRequest middle later tag w)
    → IsSomeAnd (request (later ++ past) tag) (IsOfRequest starting (later ++ past) tag w)
request_of_both s d starting middle later past tag w None both free cut e h = absurd h
request_of_both s d starting middle later past tag w (Some r) both free cut e h =
    subst (λ o. IsSomeAnd o (IsOfRequest starting (later ++ past) tag w)) (sym (request_of_parts later past tag r e))
    (record {
      work = h.work;
      done = λ is. subst (λ o. IsSomeAnd o (λ a. HoldsBytes a.outcome a.bytes w)) (sym (answer_of_parts s d starting middle later past r.number both free cut))
          (holds_numbered (length past) w (answer middle later r.number) (h.done (sym (phase_parts later past tag free) ∙ is)));
    })

window_of_both : (s d : ℕ) (starting middle : List ℕ) (later past : List Entry) (tag : ℕ) (o : Option WindowState) → IsLawful s d (later ++ past) → AllFree past
    → ((i : ℕ) → sector_at middle i ≡ sector starting past i) → HasWindow middle later tag o → HasWindow starting (later ++ past) tag o
window_of_both s d starting middle later past tag None both free cut h = phase_parts later past tag free ∙ h
window_of_both s d starting middle later past tag (Some w) both free cut h = (
  λ e. h.0 (sym (phase_parts later past tag free) ∙ e),
  h.1,
  h.2,
  request_of_both s d starting middle later past tag w (request later tag) both free cut refl h.3,
)

-- the headline over both parts
pub headline_of_both : (starting middle : List ℕ) (depth first : ℕ) (past : List Entry) (port : PortView) → length middle ≡ length starting → depth ≤ 32
    → IsLawful (length starting / 512) depth past → AllFree past → ((i : ℕ) → sector_at middle i ≡ sector starting past i)
    → port.starting ≡ middle → port.depth ≡ depth → Headline port → Headline (record port { starting = starting; past = port.past ++ past; first = first })
headline_of_both starting middle depth first past port size few own free cut begins deep h =
    let n = length starting / 512 in
    let later : IsLawful (length starting / 512) depth port.past = subst (λ m. IsLawful m depth port.past) (ap (λ l. length l / 512) begins ∙ ap (λ m. m / 512) size)
    (subst (λ d. IsLawful (length port.starting / 512) d port.past) deep h.lawful) in
    let both = (lawful_of_parts n depth port.past past own free).1 later in
    record {
      lawful = subst (λ d. IsLawful (length starting / 512) d (port.past ++ past)) (sym deep) both;
      owned = λ tag. window_of_both n depth starting middle port.past past tag (window_at port tag) both free cut
          (subst (λ m. HasWindow m port.past tag (window_at port tag)) begins (h.owned tag));
      st = h.st;
      fre = h.fre;
      sact_is = h.sact_is ∙ sym (sact_of_parts port.past past free);
      ci_is = h.ci_is ∙ sym (ci_of_parts port.past past free);
      device_is = h.device_is ∙ sym (device_tags_of_parts port.past past free);
      error_is = h.error_is ∙ sym (standing_of_parts n depth port.past past few later free);
      sectors = λ i. h.sectors i ∙ ap (λ m. sector m port.past i) begins ∙ sym ((two_parts n depth starting middle port.past past both free cut).1 i);
    }
